use Rattle.std.proofs.Common.{[], ◌∷◌, ◌++◌, ◌∙◌, ap, map}
use Rattle.std.proofs.lemmas.List.{map-append}
use Rattle.plcx_meaning.specs.Templates.{link_text}
use Rattle.plcx_st.specs.InRange.{ExpressionInRange}
use Rattle.plcx_st.specs.Meant.{expr_meant}
use Rattle.plcx_drawn.specs.Shown.{shown_link}
use Rattle.plcx_lower.proofs.Ranges.{each_item}
use Rattle.plcx_lower.proofs.Steps.{one_more}
use Rattle.plcx_lower.proofs.functions.link_values.Goals as goal

pub link_value-requires : goal.link_value-requires
link_value-requires c = each_item ExpressionInRange link_text shown_link c.args.links.now c.loop-link.link-index c.link-item.result c.loop-link-test.true c.link-item.is c.requires

pub loop-link-preserved : goal.loop-link-preserved
loop-link-preserved c =
    one_more expr_meant link_text shown_link c.args.links.now c.loop-link.link-index c.link-item.result c.loop-link.values.items c.push.new.self.items _ c.loop-link-test.true c.link-item.is c.loop-link.invariant
    (ap (map expr_meant) c.in_ok-push.ensures.items ∙ map-append expr_meant c.loop-link.values.items (c.in_ok-link_value.field-0 ∷ [])
    ∙ ap (λ e. map expr_meant c.loop-link.values.items ++ e ∷ []) c.in_ok-link_value.ensures)
