use Rattle.std.proofs.Common.{sym, subst, ℕ, Option}
use Rattle.plcx_types.specs.declared.ty.Ty.{Ty}
use Rattle.plcx_types.specs.declared.ty.Ty.TheVariants as ty
use Rattle.plcx_types.specs.Name.{in_lower_case}
use Rattle.plcx_lex.specs.Scan.{Finds, Number}
use Rattle.plcx_lex.proofs.WholeForms.{bool_finds, other_finds}
use Rattle.plcx_lex.proofs.whole.number_len.Goals as goal

pub returns-in-Bool : goal.returns-in-Bool
returns-in-Bool c =
    subst (λ (t : Ty). Finds (Number t) (in_lower_case c.args.text.now) c.longer.result) (sym c.in-Bool.is)
    (subst (λ (found : Option ℕ). Finds (Number ty.Bool) (in_lower_case c.args.text.now) found) (sym c.longer.ensures) (bool_finds (in_lower_case c.args.text.now) c.truth_len.result c.whole_len.result c.truth_len.ensures c.whole_len.ensures))

pub returns-in_default : goal.returns-in_default
returns-in_default c = other_finds c.args.ty (in_lower_case c.args.text.now) c.whole_len-in_default.result c.in_default.not-Bool c.in_default.not-Time c.whole_len-in_default.ensures
