use Rattle.std.proofs.Common.{◌≡◌, sym, ap, ◌∙◌}
use Rattle.std.specs.Prelude.{◌&&◌}
use Rattle.std.specs.Str.{bytes_eq}
use Rattle.std.proofs.lemmas.Bool.Decides.{same_from_decides}
use Rattle.std.proofs.lemmas.Slice.Eq.{bytes_eq-Decides}
use Rattle.plcx_types.specs.Name.{in_lower_case}
use Rattle.plcx_meaning.specs.Tree.{is_program}
use Rattle.plcx_model.specs.declared.project.PouKind.{PouKind}
use Rattle.plcx_view.specs.Declared.{kind_of_pou}
use Rattle.plcx_opening.proofs.opening.is_program_named.Goals as goal

pub returns-in-Program : goal.returns-in-Program
returns-in-Program c =
    let own = in_lower_case c.args.pou.now.name in
    let given = in_lower_case c.args.name.now in
    same_from_decides {P = own ≡ given} c.same.result (bytes_eq own given) c.same.ensures (bytes_eq-Decides own given)
    ∙ sym (ap (λ (k : PouKind). is_program (kind_of_pou k) && bytes_eq own given) c.in-Program.is)

pub returns-in-FunctionBlock : goal.returns-in-FunctionBlock
returns-in-FunctionBlock c =
    let own = in_lower_case c.args.pou.now.name in
    let given = in_lower_case c.args.name.now in
    sym (ap (λ (k : PouKind). is_program (kind_of_pou k) && bytes_eq own given) c.in-FunctionBlock.is)
