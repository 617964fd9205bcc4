use Rattle.std.proofs.Common.{◌≡◌, true, ◌↔◌, subst, arith}
use Rattle.plcx_model.specs.Shown.{graph_of}
use Rattle.plcx_model.specs.Feedback.{IsFeedback}
use Rattle.plcx_order.proofs.MarkSteps.{marks_more}
use Rattle.plcx_order.proofs.marks.marks.Goals as goal

pub loop-i-preserved : goal.loop-i-preserved
loop-i-preserved g c =
    let graph = graph_of c.args.wires.now in
    let here = subst (λ w. (c.is_feedback.result ≡ true) ↔ IsFeedback graph w.from.element w.to.element) c.look-wire.ensures.value c.is_feedback.ensures in
    record {
      marks = rw c.in_ok-push.ensures.items (marks_more graph c.loop-i.i c.loop-i.marks.items c.is_feedback.result c.loop-i.invariant.marks here);
      cost = omega arith;
    }
