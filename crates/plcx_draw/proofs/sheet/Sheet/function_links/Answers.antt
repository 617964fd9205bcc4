use Rattle.std.proofs.Common.{◌∙◌, ℕ, List, ap, map}
use Rattle.std.specs.Option.{option_map}
use Rattle.std.specs.List.{find}
use Rattle.plcx_drawn.specs.Shown.{shown_link}
use Rattle.plcx_rules.specs.Texts.{same_name}
use Rattle.plcx_view.specs.Blocks.{Wired, wired_link, input_at}
use Rattle.plcx_draw.specs.Wired.{shown_wired}
use Rattle.plcx_draw.proofs.BlockLaws.{place_more}
use Rattle.plcx_draw.proofs.sheet.Sheet.function_links.Goals as goal

pub loop-place-preserved : goal.loop-place-preserved
loop-place-preserved c =
    let own = c.args.self.now in
    let inputs = map shown_wired c.args.inputs.now in
    let gives = λ (i : ℕ). option_map (wired_link own.pous own.pou) (input_at c.args.func inputs i) in
    let named = c.as_bytes.ensures.value ∙ c.in_ok-name.ensures in
    let is = c.in_ok-link.ensures ∙ ap (λ (name : List ℕ). option_map (wired_link own.pous own.pou) (find (λ (w : Wired). same_name name w.0.formal) inputs)) named in
    place_more gives (map shown_link c.loop-place.links.items) (map shown_link c.in_ok-links.links.items) c.loop-place.place (option_map shown_link c.in_ok-link.link) c.in_ok-links.ensures is c.loop-place.invariant
