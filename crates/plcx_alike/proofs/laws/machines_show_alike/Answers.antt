use Rattle.std.proofs.Common.{subst}
use Rattle.plcx_meaning.specs.Evaluate.{diagram_machine}
use Rattle.plcx_meaning.specs.Execute.{TextState, text_machine}
use Rattle.plcx_meaning.specs.Run.{Side, begin_side}
use Rattle.plcx_meaning.specs.Templates.{unit_of}
use Rattle.plcx_meaning.specs.Traces.{side_at_end}
use Rattle.plcx_alike.specs.Laws.{ShowAlike, diagram_behind}
use Rattle.plcx_alike.proofs.Behind.{values_behind, begins_same, is_same}
use Rattle.plcx_alike.proofs.Values.{show_alike}
use Rattle.plcx_alike.proofs.laws.machines_show_alike.Goals as goal

pub returns : goal.returns
returns c = λ project name p q kept other turns es begun.
    let m = diagram_machine project p in
    let k = text_machine (unit_of project) q in
    let is = is_same project name p q kept other es (c.same_behavior.ensures.behaves project begun.fits) begun in
    let runs = is.runs kept begun.retained es begun.follow turns in
    let same = values_behind m k turns es (begin_side m kept) (begin_side k kept) (is.begins kept) runs in
    subst (λ (s : Side TextState). ShowAlike m k (diagram_behind project p kept turns es) (side_at_end k turns es s)) (begins_same (unit_of project) q kept other begun.same)
    (show_alike m k is.layouts (side_at_end m turns es (begin_side m kept)) (side_at_end k turns es (begin_side k kept)) same)
