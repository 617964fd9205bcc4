use Rattle.plcx_meaning.specs.Templates.{source_text}
use Rattle.plcx_st.specs.InRange.{ExpressionInRange}
use Rattle.plcx_drawn.specs.Shown.{shown_source}
use Rattle.plcx_lower.proofs.Ranges.{each_index}
use Rattle.plcx_lower.proofs.expressions.joined.Goals as goal

pub source_value-requires : goal.source_value-requires
source_value-requires c = each_index ExpressionInRange (source_text c.args.ty) shown_source c.args.others.now c.loop-other.other-index _ c.loop-other-test.true c.requires
