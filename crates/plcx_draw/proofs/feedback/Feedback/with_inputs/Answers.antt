use Rattle.plcx_meaning.specs.Diagram.{link_reads_back}
use Rattle.plcx_draw.specs.Feedback.{link_of_input}
use Rattle.plcx_draw.proofs.FeedbackLaws.{adds_more}
use Rattle.plcx_draw.proofs.feedback.Feedback.with_inputs.Goals as goal

pub loop-input-preserved : goal.loop-input-preserved
loop-input-preserved c =
    let input = c.input-item.result in
    adds_more link_of_input link_reads_back c.args.inputs.now c.loop-input.input-index input input c.args.self c.loop-input.found c.in_ok-found.found c.loop-input-test.true c.input-item.is c.loop-input.invariant c.in_ok-found.ensures
