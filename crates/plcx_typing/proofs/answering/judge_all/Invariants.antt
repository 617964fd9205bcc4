use Rattle.std.proofs.Common.{◌≡◌, ℕ, ◌<◌, Some, length}
use Rattle.std.proofs.Common.{slice_get}
use Rattle.plcx_model.specs.declared.project.Pou.{Pou}
use Rattle.plcx_rules.specs.Forms.{sheet_at, wires_from}
use Rattle.plcx_typing.specs.Judgings.{IsJudged, judged_at}
use Rattle.plcx_typing.proofs.answering.judge_all.Given as goal

abbrev pub invariant-loop-pou : goal.invariant-loop-pou
invariant-loop-pou l = record {
  count : length l.judged.items ≡ l.pou;
  each : (place : ℕ) (p : Pou) → place < l.pou → slice_get l.pous place ≡ Some p → IsJudged (sheet_at l.pous l.links place p) (wires_from l.pous p 0 p.body.elements) (judged_at l.judged.items place);
}
