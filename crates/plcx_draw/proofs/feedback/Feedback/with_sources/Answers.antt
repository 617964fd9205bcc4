use Rattle.std.proofs.Common.{get_or, refl}
use Rattle.plcx_meaning.specs.Diagram.{reads_back}
use Rattle.plcx_drawn.specs.declared.element.Source.TheVariants.{Rail}
use Rattle.plcx_drawn.specs.Shown.{shown_source}
use Rattle.plcx_draw.proofs.FeedbackLaws.{adds_more}
use Rattle.plcx_draw.proofs.feedback.Feedback.with_sources.Goals as goal

pub loop-source-preserved : goal.loop-source-preserved
loop-source-preserved c =
    let sources = c.args.sources.now in
    let i = c.loop-source.source-index in
    adds_more shown_source reads_back sources i (get_or sources i Rail) Rail c.args.self c.loop-source.found c.in_ok-found.found c.loop-source-test.true refl c.loop-source.invariant c.in_ok-found.ensures
