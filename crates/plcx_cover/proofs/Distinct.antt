-- No two wires of a project are told by the same numbers.
use Rattle.std.proofs.Common.{◌≡◌, ◌≢◌, ◌∙◌, ℕ, ◌+◌, ◌<◌, ◌≤◌, Bool, true, false, List, [], ◌∷◌, ◌++◌, map, refl, sym, ap, subst, arith}
use Rattle.std.specs.Prelude.{◌&&◌, not, nat_eq}
use Rattle.std.specs.List.{AllByRecursion, IsDistinct, flat_map, list_any}
use Rattle.std.proofs.lemmas.Bool.{and_parts, and_left, and_right, or_parts, not-true, ne_eqb}
use Rattle.std.proofs.lemmas.Map.Keys.{IsDistinct-cons}
use Rattle.plcx_types.specs.Lists.{Each}
use Rattle.plcx_meaning.proofs.Lists.{each_append, each_flat_map, each_weaker}
use Rattle.plcx_meaning.specs.Base.{all_differ}
use Rattle.plcx_meaning.specs.Diagram.{Port, ports, DiagramElement, Pou, Project}
use Rattle.plcx_meaning.specs.Fits.{PouFits, ProjectFits}
use Rattle.plcx_cover.specs.declared.counting.WireKey.{WireKey}
use Rattle.plcx_cover.specs.Wires.{Wire, wires_from, element_wires, pou_wires, pous_wires, wires_of}
use Rattle.plcx_cover.specs.Counts.{fresh, rows_of}
use Rattle.plcx_cover.specs.Keys.{key_of, same_key}

abbrev wire_key : Wire → WireKey
wire_key w = key_of (fresh w)

-- two wires differ, a wire differs from these, and all of these differ
abbrev Differ : Wire → Wire → Type 0
Differ w v = same_key (wire_key w) (wire_key v) ≡ false

abbrev Apart : List Wire → Type 0
Apart [] = Unit {0}
Apart (w ∷ ws) = Each (Differ w) ws × Apart ws

apart_append : (ws vs : List Wire) → Apart ws → Apart vs → Each (λ w. Each (Differ w) vs) ws → Apart (ws ++ vs)
apart_append [] vs a b across = b
apart_append (w ∷ ws) vs a b across = (each_append (Differ w) ws vs a.0 across.0, apart_append ws vs a.1 b across.1)

differ_number : (w v : Wire) → w.number ≢ v.number → Differ w v
differ_number w v apart = and_right (nat_eq w.pou v.pou) _ (and_right (nat_eq w.id v.id) _ (ne_eqb w.number v.number apart))

differ_element : (w v : Wire) → nat_eq w.id v.id ≡ false → Differ w v
differ_element w v apart = and_right (nat_eq w.pou v.pou) _ (and_left (nat_eq w.id v.id) (nat_eq w.number v.number) apart)

differ_pou : (w v : Wire) → w.pou ≢ v.pou → Differ w v
differ_pou w v apart = and_left (nat_eq w.pou v.pou) (nat_eq w.id v.id && nat_eq w.number v.number) (ne_eqb w.pou v.pou apart)

-- an output of an element
abbrev output : ℕ → List ℕ → ℕ → ℕ → Port → Wire
output pou name id n p = record { pou = pou; name = name; id = id; number = n; pin = p.pin; ty = p.ty }

-- what holds of all outputs of an element that are counted from a number on
each_output : (P : Wire → Type 0) (pou : ℕ) (name : List ℕ) (id n : ℕ) (ps : List Port) → ((p : Port) (m : ℕ) → n ≤ m → P (output pou name id m p)) → Each P (wires_from pou name id n ps)
each_output P pou name id n [] f = tt
each_output P pou name id n (p ∷ ps) f = (f p n (omega arith), each_output P pou name id (n + 1) ps (λ q m h. f q m (omega arith)))

-- ---- one element

later : (n m : ℕ) → n + 1 ≤ m → n ≢ m
later n m h e = omega arith

outputs_apart : (pou : ℕ) (name : List ℕ) (id n : ℕ) (ps : List Port) → Apart (wires_from pou name id n ps)
outputs_apart pou name id n [] = tt
outputs_apart pou name id n (p ∷ ps) =
    (each_output (Differ (output pou name id n p)) pou name id (n + 1) ps (λ q m h. differ_number (output pou name id n p) (output pou name id m q) (later n m h)), outputs_apart pou name id (n + 1) ps)

-- ---- one POU

beside_elements : (w : Wire) (pou : ℕ) (name : List ℕ) (es : List DiagramElement) → list_any (nat_eq w.id) (map (λ (e : DiagramElement). e.id) es) ≡ false → Each (Differ w) (flat_map (element_wires pou name) es)
beside_elements w pou name [] none = tt
beside_elements w pou name (e ∷ es) none =
    let p = or_parts _ _ none in
    each_append (Differ w) (element_wires pou name e) (flat_map (element_wires pou name) es)
    (each_output (Differ w) pou name e.id 0 (ports e.kind) (λ q m h. differ_element w (output pou name e.id m q) p.0))
    (beside_elements w pou name es p.1)

elements_apart : (pou : ℕ) (name : List ℕ) (es : List DiagramElement) → all_differ (map (λ (e : DiagramElement). e.id) es) ≡ true → Apart (flat_map (element_wires pou name) es)
elements_apart pou name [] differ = tt
elements_apart pou name (e ∷ es) differ =
    let p = and_parts _ _ differ in
    apart_append (element_wires pou name e) (flat_map (element_wires pou name) es) (outputs_apart pou name e.id 0 (ports e.kind)) (elements_apart pou name es p.1)
    (each_output (λ w. Each (Differ w) (flat_map (element_wires pou name) es)) pou name e.id 0 (ports e.kind) (λ q m h. beside_elements (output pou name e.id m q) pou name es (not-true _ p.0)))

-- ---- all POUs

each_of_pou : (P : Wire → Type 0) (pou : ℕ) (name : List ℕ) (es : List DiagramElement) → ((id : ℕ) (p : Port) (m : ℕ) → P (output pou name id m p)) → Each P (flat_map (element_wires pou name) es)
each_of_pou P pou name [] f = tt
each_of_pou P pou name (e ∷ es) f =
    each_append P (element_wires pou name e) (flat_map (element_wires pou name) es) (each_output P pou name e.id 0 (ports e.kind) (λ q m h. f e.id q m)) (each_of_pou P pou name es f)

further : (n m : ℕ) → n < m → n ≢ m
further n m h e = omega arith

beside_pous : (w : Wire) (pou : ℕ) → w.pou < pou → (ps : List Pou) → Each (Differ w) (pous_wires pou ps)
beside_pous w pou low [] = tt
beside_pous w pou low (p ∷ ps) =
    each_append (Differ w) (pou_wires pou p) (pous_wires (pou + 1) ps)
    (each_of_pou (Differ w) pou p.name p.elements (λ id q m. differ_pou w (output pou p.name id m q) (further w.pou pou low)))
    (beside_pous w (pou + 1) (omega arith) ps)

pous_apart : (project : Project) (pou : ℕ) (ps : List Pou) → Each (PouFits project) ps → Apart (pous_wires pou ps)
pous_apart project pou [] fits = tt
pous_apart project pou (p ∷ ps) fits =
    apart_append (pou_wires pou p) (pous_wires (pou + 1) ps) (elements_apart pou p.name p.elements fits.0.ids) (pous_apart project (pou + 1) ps fits.1)
    (each_of_pou (λ w. Each (Differ w) (pous_wires (pou + 1) ps)) pou p.name p.elements (λ id q m. beside_pous (output pou p.name id m q) (pou + 1) (omega arith) ps))

-- ---- their rows

keys_beside : (w : Wire) (ws : List Wire) → Each (Differ w) ws → AllByRecursion (λ k. same_key (wire_key w) k ≡ false) (map key_of (map fresh ws))
keys_beside w [] h = tt
keys_beside w (v ∷ ws) h = (h.0, keys_beside w ws h.1)

none_apart : IsDistinct same_key []
unfolding IsDistinct
none_apart = tt

keys_apart : (ws : List Wire) → Apart ws → IsDistinct same_key (map key_of (map fresh ws))
keys_apart [] h = none_apart
keys_apart (w ∷ ws) h = IsDistinct-cons same_key (wire_key w) (map key_of (map fresh ws)) (keys_beside w ws h.0) (keys_apart ws h.1)

pub rows_distinct : (project : Project) → ProjectFits project → IsDistinct same_key (map key_of (rows_of project))
rows_distinct project fits = keys_apart (wires_of project) (pous_apart project 0 project fits.pous)
