-- Wires that are listed one POU after another.
use Rattle.std.proofs.Common.{◌≡◌, ◌∙◌, ℕ, ◌+◌, ◌<◌, List, ◌++◌, map, drop, length, get_or, sym, ap, append_assoc}
use Rattle.std.specs.List.{flat_map}
use Rattle.plcx_drawn.proofs.Walks.{left}
use Rattle.plcx_drawn.specs.declared.drawing.Drawing.{Drawing}
use Rattle.plcx_drawn.specs.Pous.{shown_pou}
use Rattle.plcx_drawn.specs.Shown.{shown_element}
use Rattle.plcx_model.specs.declared.project.Pou.{Pou}
use Rattle.plcx_cover.specs.declared.listing.Wire.{Wire}
use Rattle.plcx_cover.specs.Listed.{shown_wire}
use Rattle.plcx_cover.specs.Wires.{element_wires, pous_wires}

pub more : (pous : List Pou) (ds : List Drawing) (i : ℕ) (d : Drawing) (place : ℕ) (before after : List Wire) → i < length ds → d ≡ get_or ds i d
    → map shown_wire after ≡ map shown_wire before ++ flat_map (element_wires place d.pou.now.name) (map shown_element d.elements)
    → map shown_wire after ++ pous_wires (place + 1) (map (shown_pou pous) (drop (i + 1) ds)) ≡ map shown_wire before ++ pous_wires place (map (shown_pou pous) (drop i ds))
more pous ds i d place before after low is e =
    let rest = pous_wires (place + 1) (map (shown_pou pous) (drop (i + 1) ds)) in
    let own = flat_map (element_wires place d.pou.now.name) (map shown_element d.elements) in
    ap (λ ws. ws ++ rest) e ∙ append_assoc (map shown_wire before) own rest
    ∙ ap (λ xs. map shown_wire before ++ pous_wires place (map (shown_pou pous) xs)) (sym (left ds i d low is))
