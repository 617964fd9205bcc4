-- The end of an element closes what its frame opened.
use Rattle.std.proofs.Common.{◌≡◌, ◌++◌, [], ◌∷◌, ℕ, List, sym, subst, ◌∙◌, ap, refl, append_assoc, append-nil, map}
use Rattle.std.specs.Prelude.{Bool, true, false, not}
use Rattle.std.specs.List.{flat_map}
use Rattle.std.specs.Str.{bytes_eq}
use Rattle.std.proofs.lemmas.Slice.Eq.{bytes_eq-Decides}
use Rattle.std.proofs.lemmas.List.Concat.{flat_map-append}
use Rattle.plcx_xml.specs.Events.{Event, Begin, End, events_of, events_of_element, node_events, element_events}
use Rattle.plcx_xml.specs.Built.{opened, frame_names, Going, went}
use Rattle.plcx_xml.specs.Nesting.{settled, end_step}
use Rattle.plcx_xml.proofs.Texts.{names-last}
use Rattle.plcx_xml.specs.declared.building.Frame.{Frame}
use Rattle.plcx_xml.specs.declared.tree.Element.{Element, roll-Element, fold-roll-Element}

flat_map-map : {X Y : Type 0} (f : X → List Y) (xs : List X) → flat_map (λ (ys : List Y). ys) (map f xs) ≡ flat_map f xs
flat_map-map f [] = refl
flat_map-map f (x ∷ xs) = ap (λ ys. f x ++ ys) (flat_map-map f xs)

-- an element whose frame was open until now
abbrev pub element_of : Frame → ℕ → Element
element_of f last = roll-Element (record { name = f.name; attributes = f.attributes; children = f.children; span = record { start = f.start; end = last } })

own-events : (f : Frame) (last : ℕ) → events_of_element (element_of f last) ≡ opened f ++ End f.name last ∷ []
own-events f last =
    fold-roll-Element (List Event) (List Event) node_events element_events _ ∙ ap (λ (es : List Event). Begin f.name f.attributes f.start ∷ (es ++ End f.name last ∷ [])) (flat_map-map events_of f.children)

pub closed-events : (frames init : List Frame) (f : Frame) (name : List ℕ) (last : ℕ) (built : List Event) → frames ≡ init ++ f ∷ [] → f.name ≡ name → built ≡ flat_map opened init ++ events_of_element (element_of f last) → built ≡ flat_map opened frames ++ End name last ∷ []
closed-events frames init f name last built p n h =
    let e : flat_map opened frames ≡ flat_map opened init ++ opened f = ap (flat_map opened) p ∙ (flat_map-append opened init (f ∷ []) ∙ ap (λ (es : List Event). flat_map opened init ++ es) (append-nil (opened f))) in
    h ∙ (ap (λ (es : List Event). flat_map opened init ++ es) (own-events f last)
    ∙ (sym (append_assoc (flat_map opened init) (opened f) (End f.name last ∷ []))
    ∙ (ap (λ (es : List Event). es ++ End f.name last ∷ []) (sym e)
    ∙ ap (λ (xs : List ℕ). flat_map opened frames ++ End xs last ∷ []) n)))

not_false : (b : Bool) → false ≡ not b → b ≡ true
not_false true h = refl
not_false false h = let no : ⊥ = cc in absurd no

-- names that were compared
pub names-same : (name x y : List ℕ) → x ≡ name → false ≡ not (bytes_eq x y) → name ≡ y
names-same name x y e h = sym e ∙ (bytes_eq-Decides x y).0 (not_false (bytes_eq x y) h)

-- an end tag of the innermost name leaves the names around it
pub ends-here : (frames init : List Frame) (f : Frame) (x name : List ℕ) (at : ℕ) → frames ≡ init ++ f ∷ [] → x ≡ f.name → false ≡ not (bytes_eq x name) → Going (settled (frame_names init)) ≡ went (end_step (frame_names frames) name) (end_step (frame_names frames) name) at
ends-here frames init f x name at p n e =
    let same : bytes_eq f.name name ≡ true = subst (λ (y : List ℕ). bytes_eq y name ≡ true) n (not_false (bytes_eq x name) e) in
    rw (p, names-last init f, same) refl
