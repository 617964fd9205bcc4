use Rattle.std.proofs.Common.{sym, subst}
use Rattle.std.specs.Result.{IfErr}
use Rattle.plcx_types.specs.Value.{Value}
use Rattle.plcx_types.specs.Literal.{StandsForValue}
use Rattle.plcx_types.proofs.Literals.{no_value}
use Rattle.plcx_types.proofs.literal.read_value.Goals as goal

pub returns-clause-none : goal.returns-clause-none
returns-clause-none c =
    subst (λ r. IfErr r (λ x. (v : Value) → StandsForValue c.args.ty c.args.text.now v → ⊥)) (sym c.ok_or.ensures.value)
    (no_value c.args.ty c.args.text.now c.value_of.result _ c.value_of.ensures)
