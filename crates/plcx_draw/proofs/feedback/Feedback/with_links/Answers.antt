use Rattle.plcx_meaning.specs.Diagram.{link_reads_back}
use Rattle.plcx_drawn.specs.Shown.{shown_link}
use Rattle.plcx_draw.proofs.FeedbackLaws.{adds_more}
use Rattle.plcx_draw.proofs.feedback.Feedback.with_links.Goals as goal

pub loop-link-preserved : goal.loop-link-preserved
loop-link-preserved c =
    let link = c.link-item.result in
    adds_more shown_link link_reads_back c.args.links.now c.loop-link.link-index link link c.args.self c.loop-link.found c.in_ok-found.found c.loop-link-test.true c.link-item.is c.loop-link.invariant c.in_ok-found.ensures
