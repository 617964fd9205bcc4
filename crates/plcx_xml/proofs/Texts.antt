-- A text that is put behind others joins the last of them.
use Rattle.std.proofs.Common.{◌≡◌, ℕ, List, [], ◌∷◌, ◌++◌, map, refl, ap, sym, ◌∙◌, append_assoc, append-nil}
use Rattle.std.specs.Prelude.{reverse}
use Rattle.std.specs.List.{flat_map}
use Rattle.std.proofs.lemmas.List.{map-append, reverse-append}
use Rattle.std.proofs.lemmas.List.Concat.{flat_map-append}
use Rattle.plcx_types.specs.declared.span.Span.{Span}
use Rattle.plcx_xml.specs.Built.{opened, frame_names, with_text}
use Rattle.plcx_xml.specs.Events.{Event, Begin, End, Chars, events_of, events_of_element, with_event}
use Rattle.plcx_xml.specs.declared.building.Frame.{Frame}
use Rattle.plcx_xml.specs.declared.tree.Attribute.{Attribute}
use Rattle.plcx_xml.specs.declared.tree.Text.{Text}
use Rattle.plcx_xml.specs.declared.tree.Element.{Element}
use Rattle.plcx_xml.specs.declared.tree.Node.{Node}
use Rattle.plcx_xml.specs.declared.tree.Node.TheVariants as node
use Rattle.plcx_xml.proofs.Views.{view-element, element-around, text-events, child-events}

abbrev over : Span → Span → Span
over s t = record { start = s.start; end = t.end }

pub with-chars : (es : List Event) (w v : List ℕ) (s t : Span) → with_event (es ++ Chars w s ∷ []) (Chars v t) ≡ es ++ Chars (w ++ v) (over s t) ∷ []
with-chars [] w v s t = refl
with-chars (e ∷ []) w v s t = refl
with-chars (e ∷ (f ∷ es)) w v s t = ap (λ (xs : List Event). e ∷ xs) (with-chars (f ∷ es) w v s t)

with-end : (es : List Event) (name : List ℕ) (end : ℕ) (next : Event) → with_event (es ++ End name end ∷ []) next ≡ (es ++ End name end ∷ []) ++ next ∷ []
with-end [] name end next = refl
with-end (e ∷ []) name end next = refl
with-end (e ∷ (f ∷ es)) name end next = ap (λ (xs : List Event). e ∷ xs) (with-end (f ∷ es) name end next)

-- what stands before an open element stays
with-front : (es fs : List Event) (name : List ℕ) (attributes : List Attribute) (start : ℕ) (next : Event) → with_event (es ++ (Begin name attributes start ∷ fs)) next ≡ es ++ (Begin name attributes start ∷ with_event fs next)
with-front [] [] name attributes start next = refl
with-front [] (f ∷ fs) name attributes start next = refl
with-front (e ∷ []) fs name attributes start next = ap (λ (xs : List Event). e ∷ xs) (with-front [] fs name attributes start next)
with-front (e ∷ (f ∷ es)) fs name attributes start next = ap (λ (xs : List Event). e ∷ xs) (with-front (f ∷ es) fs name attributes start next)

pub with-begin : (es : List Event) (name : List ℕ) (attributes : List Attribute) (start : ℕ) → with_event es (Begin name attributes start) ≡ es ++ Begin name attributes start ∷ []
with-begin [] name attributes start = refl
with-begin (Begin n a s ∷ []) name attributes start = refl
with-begin (End n e ∷ []) name attributes start = refl
with-begin (Chars v s ∷ []) name attributes start = refl
with-begin (e ∷ (f ∷ es)) name attributes start = ap (λ (xs : List Event). e ∷ xs) (with-begin (f ∷ es) name attributes start)

pub with-ended : (es : List Event) (name : List ℕ) (end : ℕ) → with_event es (End name end) ≡ es ++ End name end ∷ []
with-ended [] name end = refl
with-ended (Begin n a s ∷ []) name end = refl
with-ended (End n e ∷ []) name end = refl
with-ended (Chars v s ∷ []) name end = refl
with-ended (e ∷ (f ∷ es)) name end = ap (λ (xs : List Event). e ∷ xs) (with-ended (f ∷ es) name end)

flat-last : (init : List Node) (n : Node) → flat_map events_of (init ++ n ∷ []) ≡ flat_map events_of init ++ events_of n
flat-last init n = flat_map-append events_of init (n ∷ []) ∙ ap (λ (es : List Event). flat_map events_of init ++ es) (append-nil (events_of n))

-- into the last text
pub into-text : (old new init : List Node) (t both : Text) (v : List ℕ) (span : Span) → old ≡ init ++ node.Text t ∷ [] → both.value ≡ t.value ++ v → both.span ≡ over t.span span → new ≡ init ++ node.Text both ∷ [] → flat_map events_of new ≡ with_event (flat_map events_of old) (Chars v span)
into-text old new init t both v span o e w n =
    let was : flat_map events_of old ≡ flat_map events_of init ++ Chars t.value t.span ∷ [] = ap (flat_map events_of) o ∙ (flat-last init (node.Text t) ∙ ap (λ (es : List Event). flat_map events_of init ++ es) (text-events t)) in
    let is : flat_map events_of new ≡ flat_map events_of init ++ Chars both.value both.span ∷ [] = ap (flat_map events_of) n ∙ (flat-last init (node.Text both) ∙ ap (λ (es : List Event). flat_map events_of init ++ es) (text-events both)) in
    let same : flat_map events_of init ++ Chars both.value both.span ∷ [] ≡ flat_map events_of init ++ Chars (t.value ++ v) (over t.span span) ∷ [] = ap (λ (xs : List ℕ). flat_map events_of init ++ Chars xs both.span ∷ []) e ∙ ap (λ (s : Span). flat_map events_of init ++ Chars (t.value ++ v) s ∷ []) w in
    is ∙ (same ∙ (sym (with-chars (flat_map events_of init) t.value v t.span span) ∙ ap (λ (es : List Event). with_event es (Chars v span)) (sym was)))

-- an element's events end with its end
ends-own : (e : Element) → (es : List Event) × (name : List ℕ) × (end : ℕ) × (events_of_element e ≡ es ++ End name end ∷ [])
ends-own e =
    let v = view-element e in
    let own : events_of_element e ≡ Begin v.0.name v.0.attributes v.0.span.start ∷ (flat_map (λ (es : List Event). es) (map events_of v.0.children) ++ End v.0.name v.0.span.end ∷ []) = ap events_of_element v.1 ∙ element-around v.0 in
    (Begin v.0.name v.0.attributes v.0.span.start ∷ flat_map (λ (es : List Event). es) (map events_of v.0.children), v.0.name, v.0.span.end, own)

-- behind an element
pub behind-element : (old new init : List Node) (e : Element) (v : List ℕ) (span : Span) → old ≡ init ++ node.Element e ∷ [] → new ≡ (init ++ node.Element e ∷ []) ++ node.Text (record { value = v; span = span }) ∷ [] → flat_map events_of new ≡ with_event (flat_map events_of old) (Chars v span)
behind-element old new init e v span o n =
    let own = ends-own e in
    let front = flat_map events_of init ++ own.0 in
    let was : flat_map events_of old ≡ front ++ End own.1 own.2 ∷ [] = ap (flat_map events_of) o ∙ (flat-last init (node.Element e) ∙ (ap (λ (es : List Event). flat_map events_of init ++ es) (child-events e ∙ own.3) ∙ sym (append_assoc (flat_map events_of init) own.0 (End own.1 own.2 ∷ [])))) in
    let text : Text = record { value = v; span = span } in
    let is : flat_map events_of new ≡ flat_map events_of old ++ Chars v span ∷ [] = ap (flat_map events_of) n ∙ (flat-last (init ++ node.Element e ∷ []) (node.Text text) ∙ (ap (λ (ns : List Node). flat_map events_of ns ++ events_of (node.Text text)) (sym o) ∙ ap (λ (es : List Event). flat_map events_of old ++ es) (text-events text))) in
    is ∙ (ap (λ (es : List Event). es ++ Chars v span ∷ []) was ∙ (sym (with-end front own.1 own.2 (Chars v span)) ∙ ap (λ (es : List Event). with_event es (Chars v span)) (sym was)))

pub names-last : (init : List Frame) (f : Frame) → frame_names (init ++ f ∷ []) ≡ f.name ∷ frame_names init
names-last init f = ap reverse (map-append (λ (g : Frame). g.name) init (f ∷ [])) ∙ reverse-append (map (λ (g : Frame). g.name) init) (f.name ∷ [])

-- a text in the innermost open element
pub into-frame : (frames new init : List Frame) (f g : Frame) (v : List ℕ) (span : Span) → frames ≡ init ++ f ∷ [] → new ≡ init ++ g ∷ [] → g.name ≡ f.name → g.attributes ≡ f.attributes → g.start ≡ f.start → flat_map events_of g.children ≡ with_event (flat_map events_of f.children) (Chars v span) → flat_map opened new ≡ with_text (flat_map opened frames) (frame_names frames) v span
into-frame frames new init f g v span o n name attributes start h =
    let was : flat_map opened frames ≡ flat_map opened init ++ opened f = ap (flat_map opened) o ∙ (flat_map-append opened init (f ∷ []) ∙ ap (λ (es : List Event). flat_map opened init ++ es) (append-nil (opened f))) in
    let is : flat_map opened new ≡ flat_map opened init ++ opened g = ap (flat_map opened) n ∙ (flat_map-append opened init (g ∷ []) ∙ ap (λ (es : List Event). flat_map opened init ++ es) (append-nil (opened g))) in
    let own : opened g ≡ Begin f.name f.attributes f.start ∷ with_event (flat_map events_of f.children) (Chars v span) = rw (name, attributes, start, h) refl in
    let kept : with_text (flat_map opened frames) (frame_names frames) v span ≡ with_event (flat_map opened frames) (Chars v span) = ap (λ (ns : List (List ℕ)). with_text (flat_map opened frames) ns v span) (ap frame_names o ∙ names-last init f) in
    is ∙ (ap (λ (es : List Event). flat_map opened init ++ es) own ∙ (sym (with-front (flat_map opened init) (flat_map events_of f.children) f.name f.attributes f.start (Chars v span)) ∙ (ap (λ (es : List Event). with_event es (Chars v span)) (sym was) ∙ sym kept)))
