use Rattle.plcx_meaning.specs.Templates.{link_text}
use Rattle.plcx_st.specs.InRange.{ExpressionInRange}
use Rattle.plcx_drawn.specs.Shown.{shown_link}
use Rattle.plcx_lower.proofs.Ranges.{each_item}
use Rattle.plcx_lower.proofs.Steps.{drop_item}
use Rattle.plcx_lower.proofs.functions.compared.Goals as goal

pub comparison-requires-clause-right : goal.comparison-requires-clause-right
comparison-requires-clause-right c = each_item ExpressionInRange link_text shown_link c.args.inputs.now c.loop-input.input-index c.input-item.result c.loop-input-test.true c.input-item.is c.requires.inputs

pub loop-input-preserved : goal.loop-input-preserved
loop-input-preserved c =
    let left = drop_item c.args.inputs.now c.loop-input.input-index c.input-item.result c.loop-input-test.true c.input-item.is in (
      each_item ExpressionInRange link_text shown_link c.args.inputs.now c.loop-input.input-index c.input-item.result c.loop-input-test.true c.input-item.is c.requires.inputs,
      rw (c.in_ok-value.ensures, c.in_ok-comparison.ensures) (rw left at c.loop-input.invariant.1),
    )
