use Rattle.std.proofs.Common.{[], ◌∷◌, ◌++◌, ◌∙◌, ap, map}
use Rattle.std.proofs.lemmas.List.{map-append}
use Rattle.plcx_meaning.specs.Templates.{input_text}
use Rattle.plcx_st.specs.Meant.{arg_meant}
use Rattle.plcx_st.specs.InRange.{ArgumentInRange}
use Rattle.plcx_drawn.specs.Shown.{shown_input_pin}
use Rattle.plcx_lower.proofs.Ranges.{each_item}
use Rattle.plcx_lower.proofs.Steps.{one_more}
use Rattle.plcx_lower.proofs.elements.put_inputs.Goals as goal

pub input_argument-requires : goal.input_argument-requires
input_argument-requires c = each_item ArgumentInRange input_text shown_input_pin c.args.inputs.now c.loop-input.input-index c.input-item.result c.loop-input-test.true c.input-item.is c.requires

pub loop-input-preserved : goal.loop-input-preserved
loop-input-preserved c =
    one_more arg_meant input_text shown_input_pin c.args.inputs.now c.loop-input.input-index c.input-item.result c.loop-input.args.items c.push.new.self.items _ c.loop-input-test.true c.input-item.is
    c.loop-input.invariant (ap (map arg_meant) c.in_ok-push.ensures.items ∙ map-append arg_meant c.loop-input.args.items (c.in_ok-input_argument.field-0 ∷ [])
    ∙ ap (λ a. map arg_meant c.loop-input.args.items ++ a ∷ []) c.in_ok-input_argument.ensures)
