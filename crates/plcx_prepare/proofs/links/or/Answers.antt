use Rattle.plcx_drawn.specs.declared.element.Source.TheVariants.{Rail}
use Rattle.plcx_drawn.specs.Shown.{shown_source}
use Rattle.plcx_prepare.specs.Literals.{SuitsType}
use Rattle.plcx_prepare.proofs.Laws.{each_shown}
use Rattle.plcx_prepare.proofs.links.or.Goals as goal

pub source_of-right-requires : goal.source_of-right-requires
source_of-right-requires g c = each_shown (SuitsType c.args.ty) shown_source c.args.sources.now c.loop-source.source-index Rail c.requires c.loop-source-test.true
