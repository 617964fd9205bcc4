use Rattle.std.proofs.Common.{◌≡◌, ◌≢◌, [], ◌∷◌, ◌++◌, subst}
use Rattle.plcx_meaning.specs.Evaluate.{diagram_machine}
use Rattle.plcx_meaning.specs.Execute.{TextState, text_machine}
use Rattle.plcx_meaning.specs.Run.{NoStep, Side, tells, begin_side}
use Rattle.plcx_meaning.specs.Templates.{unit_of}
use Rattle.plcx_meaning.specs.Traces.{side_at_end}
use Rattle.plcx_alike.specs.Laws.{diagram_behind}
use Rattle.plcx_alike.proofs.Behind.{told_behind, begins_same, is_same}
use Rattle.plcx_alike.proofs.laws.machines_tell_alike.Goals as goal

pub returns : goal.returns
returns c = λ project name p q kept other turns es e begun.
    let m = diagram_machine project p in
    let k = text_machine (unit_of project) q in
    let is = is_same project name p q kept other (es ++ e ∷ []) (c.same_behavior.ensures.behaves project begun.fits) begun in
    let runs = is.runs kept begun.retained (es ++ e ∷ []) begun.follow turns in
    subst (λ (s : Side TextState). (tells m turns e (diagram_behind project p kept turns es) ≡ tells k turns e (side_at_end k turns es s)) × (tells k turns e (side_at_end k turns es s) ≢ NoStep))
    (begins_same (unit_of project) q kept other begun.same)
    (told_behind m k turns es e (begin_side m kept) (begin_side k kept) runs)
