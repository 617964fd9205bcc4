-- What elements have, one after another.
use Rattle.std.proofs.Common.{◌≡◌, ◌∙◌, ℕ, ◌+◌, ◌<◌, List, [], ◌∷◌, ◌++◌, Option, Some, None, map, take, get_or, length, refl, sym, ap, subst, arith, append_assoc}
use Rattle.std.specs.Prelude.{max, pos}
use Rattle.std.specs.List.{flat_map, slice_get}
use Rattle.std.proofs.lemmas.List.{append-nil, map-append, take_more}
use Rattle.std.proofs.lemmas.List.Elements.{filter_map-append}
use Rattle.plcx_funcs.specs.Applied.{value}
use Rattle.plcx_meaning.specs.Diagram.{Port, ports, DiagramElement}
use Rattle.plcx_meaning.specs.Evaluate.{leads_to}
use Rattle.plcx_numbered.specs.Prepared.{Numbering, spares}
use Rattle.plcx_numbered.specs.Right.{lead, leaps}
use Rattle.plcx_numbered.specs.Numbers.{spare_wires}
use Rattle.plcx_numbered.specs.Programs.{jump_of}
use Rattle.plcx_drawn.specs.declared.element.Element.{Element}
use Rattle.plcx_drawn.specs.Shown.{shown_element}
use Rattle.plcx_targets.specs.Labels.{network_of}
use Rattle.plcx_bodies.specs.declared.parts.Parts.{Parts}
use Rattle.plcx_bodies.specs.Parts.{defaults, element_defaults, AddsParts, ArePartsOf}

-- no element adds anything
pub nothing_added : (c : Numbering) (networks : List (List DiagramElement)) (p : Parts) → AddsParts c networks [] p p
nothing_added c networks p = record { wires = sym (append-nil p.wires.items); spare = omega arith; jumps = sym (append-nil p.jumps.items) }

defaults_then : (es fs : List DiagramElement) → element_defaults (es ++ fs) ≡ element_defaults es ++ element_defaults fs
defaults_then [] fs = refl
defaults_then (e ∷ es) fs =
    map-append (λ (o : Port). value o.ty (pos 0)) (ports e.kind) (flat_map (λ (x : DiagramElement). ports x.kind) (es ++ fs))
    ∙ ap (λ xs. defaults (ports e.kind) ++ xs) (defaults_then es fs)
    ∙ sym (append_assoc (defaults (ports e.kind)) (element_defaults es) (element_defaults fs))
    ∙ ap (λ xs. xs ++ element_defaults fs) (sym (map-append (λ (o : Port). value o.ty (pos 0)) (ports e.kind) (flat_map (λ (x : DiagramElement). ports x.kind) es)))

spare_then : (es fs : List DiagramElement) → spare_wires (es ++ fs) ≡ max (spare_wires es) (spare_wires fs)
spare_then [] fs = omega arith
spare_then (e ∷ es) fs = let rest = spare_then es fs in omega arith

lead_then : (id : ℕ) (o : Option ℕ) (xs ys : List (ℕ × ℕ)) → lead id o (xs ++ ys) ≡ lead id o xs ++ ys
lead_then id None xs ys = refl
lead_then id (Some n) xs ys = refl

leaps_then : (networks : List (List DiagramElement)) (es fs : List DiagramElement) → leaps networks (es ++ fs) ≡ leaps networks es ++ leaps networks fs
leaps_then networks [] fs = refl
leaps_then networks (e ∷ es) fs = ap (lead e.id (leads_to networks e.kind)) (leaps_then networks es fs) ∙ lead_then e.id (leads_to networks e.kind) (leaps networks es) (leaps networks fs)

-- one element more, by what is said of it
pub element_added : (c : Numbering) (networks : List (List DiagramElement)) (e : DiagramElement) (p q : Parts)
    → q.wires.items ≡ p.wires.items ++ defaults (ports e.kind) → q.spare ≡ max p.spare (spares e.kind) → q.jumps.items ≡ p.jumps.items ++ map (jump_of c) (lead e.id (leads_to networks e.kind) [])
    → AddsParts c networks (e ∷ []) p q
element_added c networks e p q wires spare jumps = record {
  wires = wires ∙ ap (λ (os : List Port). p.wires.items ++ defaults os) (sym (append-nil (ports e.kind)));
  spare = omega arith;
  jumps = jumps;
}

-- some elements, and then others
pub parts_then : (c : Numbering) (networks : List (List DiagramElement)) (es fs : List DiagramElement) (p q : Parts) → ArePartsOf c networks es p → AddsParts c networks fs p q → ArePartsOf c networks (es ++ fs) q
parts_then c networks es fs p q are adds =
    let s = are.spare in
    let t = adds.spare in
    let m = spare_then es fs in
    record {
      wires = adds.wires ∙ ap (λ xs. xs ++ element_defaults fs) are.wires ∙ sym (defaults_then es fs);
      spare = t ∙ ap (λ n. max n (spare_wires fs)) s ∙ sym m;
      jumps = adds.jumps ∙ ap (λ xs. xs ++ map (jump_of c) (leaps networks fs)) are.jumps
          ∙ sym (map-append (jump_of c) (leaps networks es) (leaps networks fs)) ∙ ap (map (jump_of c)) (sym (leaps_then networks es fs));
    }

-- the element at one place more
pub place_then : (c : Numbering) (networks : List (List DiagramElement)) (elements : List Element) (places : List ℕ) (i x : ℕ) (p q : Parts) → i < length places → x ≡ get_or places i 0
    → ArePartsOf c networks (network_of elements (take i places)) p → AddsParts c networks (network_of elements (x ∷ [])) p q → ArePartsOf c networks (network_of elements (take (i + 1) places)) q
place_then c networks elements places i x p q low is are adds =
    let split : network_of elements (take (i + 1) places) ≡ network_of elements (take i places) ++ network_of elements (x ∷ []) =
    ap (network_of elements) (take_more places i 0 low)
    ∙ ap (λ y. network_of elements (take i places ++ y ∷ [])) (sym is)
    ∙ filter_map-append (slice_get (map shown_element elements)) (take i places) (x ∷ []) in
    subst (λ (es : List DiagramElement). ArePartsOf c networks es q) (sym split) (parts_then c networks (network_of elements (take i places)) (network_of elements (x ∷ [])) p q are adds)
