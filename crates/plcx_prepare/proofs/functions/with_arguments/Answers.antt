use Rattle.plcx_drawn.specs.Shown.{shown_link}
use Rattle.plcx_prepare.specs.Literals.{HasLiterals}
use Rattle.plcx_prepare.proofs.Laws.{each_item}
use Rattle.plcx_prepare.proofs.functions.with_arguments.Goals as goal

pub link_source-source-requires : goal.link_source-source-requires
link_source-source-requires g c = each_item HasLiterals shown_link c.args.links.now c.loop-link.link-index c.link-item.result c.requires c.loop-link-test.true c.link-item.is
