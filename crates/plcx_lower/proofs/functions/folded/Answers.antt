use Rattle.plcx_meaning.specs.Templates.{link_text}
use Rattle.plcx_st.specs.InRange.{ExpressionInRange}
use Rattle.plcx_drawn.specs.Shown.{shown_link}
use Rattle.plcx_lower.proofs.Ranges.{each_item}
use Rattle.plcx_lower.proofs.Steps.{drop_item}
use Rattle.plcx_lower.proofs.functions.folded.Goals as goal

pub link_value-requires : goal.link_value-requires
link_value-requires c = each_item ExpressionInRange link_text shown_link c.args.inputs.now c.loop-input.input-index c.input-item.result c.loop-input-test.true c.input-item.is c.requires

pub loop-input-preserved : goal.loop-input-preserved
loop-input-preserved c =
    let left = drop_item c.args.inputs.now c.loop-input.input-index c.input-item.result c.loop-input-test.true c.input-item.is in
    rw (c.in_ok-value.ensures, c.in_ok-link_value.ensures) (rw left at c.loop-input.invariant)
