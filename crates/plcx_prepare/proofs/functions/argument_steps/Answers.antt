use Rattle.plcx_drawn.specs.Shown.{shown_link}
use Rattle.plcx_prepare.specs.Literals.{HasLiterals}
use Rattle.plcx_prepare.proofs.Laws.{each_item}
use Rattle.plcx_prepare.proofs.functions.argument_steps.Goals as goal

pub link_steps-requires : goal.link_steps-requires
link_steps-requires g c = each_item HasLiterals shown_link c.args.links.now c.loop-link.link-index c.link-item.result c.requires c.loop-link-test.true c.link-item.is
