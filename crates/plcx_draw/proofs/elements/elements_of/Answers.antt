use Rattle.std.proofs.Common.{◌≡◌, ◌∙◌, ℕ, List, map, ap}
use Rattle.std.specs.List.{list_any}
use Rattle.plcx_meaning.specs.Diagram.{DiagramElement}
use Rattle.plcx_view.specs.Diagrams.{elements_of, without_networks, with_fed}
use Rattle.plcx_draw.specs.declared.feedback.Bare.{Bare}
use Rattle.plcx_draw.specs.Feedback.{has, shown_bare, kind_reads_back}
use Rattle.plcx_draw.specs.Pins.{shown_pins}
use Rattle.plcx_draw.specs.Sheets.{Placed}
use Rattle.plcx_draw.proofs.FeedbackLaws.{found_fed}
use Rattle.plcx_draw.proofs.elements.elements_of.Goals as goal

pub returns : goal.returns
returns c =
    let own = c.in_ok-sheet.sheet in
    let pins = shown_pins c.args.pins in
    let bare = map shown_bare c.in_ok-bare.bare.items in
    let feedback = c.in_ok-feedback.feedback in
    let found : (id : ℕ) (pin : List ℕ) → has feedback id pin ≡ list_any (λ (e : DiagramElement). kind_reads_back id pin e.kind) bare =
    λ id pin. c.in_ok-feedback.ensures id pin ∙ ap (λ (bs : List Bare). list_any (λ (e : DiagramElement). kind_reads_back id pin e.kind) (map shown_bare bs)) c.deref.ensures.value in
    c.in_ok-with_fed.ensures
    ∙ found_fed own.pous own.pou feedback bare bare found
    ∙ ap (λ (es : List DiagramElement). map (with_fed (without_networks own.pous own.pou es)) es) c.in_ok-bare.ensures
    ∙ ap (λ (at : Placed). elements_of at.pous at.pou pins) c.in_ok-sheet.ensures
