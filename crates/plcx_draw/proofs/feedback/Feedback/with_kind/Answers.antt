use Rattle.std.proofs.Common.{◌∙◌, ◌||◌, ◌++◌, List, map, sym, ap}
use Rattle.std.specs.List.{list_any}
use Rattle.plcx_meaning.specs.Diagram as diagram
use Rattle.plcx_meaning.specs.Diagram.{enable_links, link_reads_back}
use Rattle.plcx_drawn.specs.declared.element.ElementKind.{ElementKind}
use Rattle.plcx_drawn.specs.declared.element.InputPin.{InputPin}
use Rattle.plcx_drawn.specs.Shown.{shown_enable, shown_input_pin, shown_kind}
use Rattle.plcx_draw.specs.Feedback.{has, kind_reads_back}
use Rattle.plcx_draw.proofs.FeedbackLaws.{adds_call}
use Rattle.plcx_draw.proofs.feedback.Feedback.with_kind.Goals as goal

pub returns-in_ok-with_inputs-in-Call : goal.returns-in_ok-with_inputs-in-Call
returns-in_ok-with_inputs-in-Call c id pin =
    let inputs = c.as_slice-in-Call.result.now in
    let en = enable_links (shown_enable c.in-Call.enable) in
    let start = has c.args.self id pin in
    adds_call c.args.self c.in_ok-found-in-Call.found c.in_ok-with_inputs-in-Call.field-0 en inputs c.in_ok-found-in-Call.ensures c.in_ok-with_inputs-in-Call.ensures id pin
    ∙ ap (λ (is : List InputPin). start || list_any (link_reads_back id pin) (en ++ map (λ (i : diagram.InputPin). i.link) (map shown_input_pin is))) c.as_slice-in-Call.ensures
    ∙ ap (λ (k : ElementKind). start || kind_reads_back id pin (shown_kind k)) (sym c.in-Call.is)
