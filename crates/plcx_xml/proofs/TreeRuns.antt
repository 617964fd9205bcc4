-- A tree that isn't too deep runs through, and one that is doesn't.
use Rattle.std.proofs.Common.{◌≡◌, ◌<◌, ◌≤◌, ℕ, Bool, ◌+◌, max, true, false, List, [], ◌∷◌, ◌++◌, length, map, fold, refl, ap, sym, subst, ◌∙◌, ◌⊎◌, inl, inr, arith, cond, leb, None, Some}
use Rattle.std.specs.declared.option.Option.{Option}
use Rattle.std.specs.List.{flat_map}
use Rattle.std.specs.Str.{bytes_eq}
use Rattle.std.proofs.lemmas.Bool.{le-leb, lt-leb, lt-ltb, le-ltb}
use Rattle.std.proofs.lemmas.Bool.Decides.{leb_tells}
use Rattle.std.proofs.lemmas.Slice.Eq.{bytes_eq-Decides}
use Rattle.plcx_xml.specs.Reading.{◌>>=◌}
use Rattle.plcx_xml.specs.Events.{Event, Begin, End, Chars, events_of, events_of_element, node_events, element_events, node_depth, element_depth, depth_of_element}
use Rattle.plcx_xml.specs.Nesting.{Place, settled, outset, begin_step, end_step, below_limit}
use Rattle.plcx_xml.specs.declared.tree.Attribute.{Attribute}
use Rattle.plcx_xml.specs.declared.tree.Node.{Node, fold-Node, fold-roll-Node, roll-Node}
use Rattle.plcx_xml.specs.declared.tree.Node.TheFolds.{map-Node, map-Element}
use Rattle.plcx_xml.specs.declared.tree.Node.TheOpen.{Node-F, Element-F}
use Rattle.plcx_xml.specs.declared.tree.Element.{Element, roll-Element, fold-roll-Element, ind-Element}

abbrev pub chars_step : Bool → Place → List (List ℕ) → Option Place
chars_step lets p [] = cond lets (Some p) None
chars_step lets p (m ∷ ms) = Some p

-- one event behind the names that are open; a text where none is may be let through
abbrev pub event_step : Bool → Event → Place → Option Place
event_step lets (Begin name attributes start) p = begin_step below_limit p (record { names = name ∷ p.names; closed = false })
event_step lets (End name end) p = end_step p.names name
event_step lets (Chars value span) p = chars_step lets p p.names

abbrev pub run_events : Bool → List Event → Place → Option Place
run_events lets [] p = Some p
run_events lets (e ∷ es) p = event_step lets e p >>= run_events lets es

bind-none : {A B : Type 0} (o : Option A) (f : A → Option B) → o ≡ None → (o >>= f) ≡ None
bind-none o f h = rw h refl

pub bind-assoc : {A B C : Type 0} (o : Option A) (f : A → Option B) (g : B → Option C) → ((o >>= f) >>= g) ≡ (o >>= λ x. f x >>= g)
bind-assoc None f g = refl
bind-assoc (Some x) f g = refl

pub bind-cong : {A B : Type 0} (o : Option A) (f g : A → Option B) → ((x : A) → f x ≡ g x) → (o >>= f) ≡ (o >>= g)
bind-cong None f g h = refl
bind-cong (Some x) f g h = h x

-- events one after another
pub run-append : (lets : Bool) (xs ys : List Event) (p : Place) → run_events lets (xs ++ ys) p ≡ (run_events lets xs p >>= run_events lets ys)
run-append lets [] ys p = refl
run-append lets (x ∷ xs) ys p = bind-cong (event_step lets x p) (run_events lets (xs ++ ys)) (λ q. run_events lets xs q >>= run_events lets ys) (run-append lets xs ys) ∙ sym (bind-assoc (event_step lets x p) (run_events lets xs) (run_events lets ys))

abbrev pub depth_of : Node → ℕ
depth_of = fold-Node ℕ ℕ node_depth element_depth

-- where the depth allows it
abbrev pub limited : ℕ → Place → Option Place
limited n p = cond (leb n 64) (Some p) None

limited-in : (n : ℕ) (p : Place) → n ≤ 64 → limited n p ≡ Some p
limited-in n p h = rw (le-leb n 64 h) refl

limited-out : (n : ℕ) (p : Place) → 64 < n → limited n p ≡ None
limited-out n p h = rw (lt-leb n 64 h) refl

within : (n : ℕ) → (n ≤ 64) ⊎ (64 < n)
within n = of (leb_tells n 64)
  where
    of : ((leb n 64 ≡ true) × (n ≤ 64)) ⊎ ((leb n 64 ≡ false) × (64 < n)) → (n ≤ 64) ⊎ (64 < n)
    of (inl h) = inl h.1
    of (inr h) = inr h.1

limited-max : (k d f : ℕ) (p : Place) → k + d ≤ 64 → limited (k + f) p ≡ limited (k + max d f) p
limited-max k d f p h = of (within (k + f))
  where
    of : (k + f ≤ 64) ⊎ (64 < k + f) → limited (k + f) p ≡ limited (k + max d f) p
    of (inl l) = limited-in (k + f) p l ∙ sym (limited-in (k + max d f) p (omega arith))
    of (inr l) = limited-out (k + f) p l ∙ sym (limited-out (k + max d f) p (omega arith))

fold-max : (a : ℕ) (ds : List ℕ) → fold max a ds ≡ max a (fold max 0 ds)
fold-max a [] = omega arith
fold-max a (d ∷ ds) =
    let l : fold max (max a d) ds ≡ max (max a d) (fold max 0 ds) = fold-max (max a d) ds in
    let r : fold max (max 0 d) ds ≡ max (max 0 d) (fold max 0 ds) = fold-max (max 0 d) ds in
    omega arith

fold-max-cons : (d : ℕ) (ds : List ℕ) → fold max 0 (d ∷ ds) ≡ max d (fold max 0 ds)
fold-max-cons d ds = let r : fold max (max 0 d) ds ≡ max (max 0 d) (fold max 0 ds) = fold-max (max 0 d) ds in omega arith

abbrev inside : List ℕ → List (List ℕ) → Place
inside m ns = record { names = m ∷ ns; closed = false }

-- inside an element, a part runs through where the depth allows it
abbrev NodeRuns : Bool → Node → Type 0
NodeRuns lets n = (m : List ℕ) (ns : List (List ℕ)) → length ns + 1 ≤ 64 → run_events lets (events_of n) (inside m ns) ≡ limited (length ns + 1 + depth_of n) (inside m ns)

abbrev ElementRuns : Bool → Element → Type 0
ElementRuns lets e = (ns : List (List ℕ)) → run_events lets (events_of_element e) (record { names = ns; closed = false }) ≡ limited (length ns + depth_of_element e) (settled ns)

children-run : (lets : Bool) (cs : List ((n : Node) × NodeRuns lets n)) (m : List ℕ) (ns : List (List ℕ)) → length ns + 1 ≤ 64 → run_events lets (flat_map (λ (es : List Event). es) (map events_of (map (λ e. e.0) cs))) (inside m ns) ≡ limited (length ns + 1 + fold max 0 (map depth_of (map (λ e. e.0) cs))) (inside m ns)
children-run lets [] m ns h = sym (limited-in (length ns + 1 + 0) (inside m ns) (omega arith))
children-run lets (c ∷ cs) m ns h =
    one (c.1 m ns h) (children-run lets cs m ns h) (within (length ns + 1 + depth_of c.0))
  where
    rest : List Event
    rest = flat_map (λ (es : List Event). es) (map events_of (map (λ e. e.0) cs))

    deepest : ℕ
    deepest = fold max 0 (map depth_of (map (λ e. e.0) cs))

    one : run_events lets (events_of c.0) (inside m ns) ≡ limited (length ns + 1 + depth_of c.0) (inside m ns) → run_events lets rest (inside m ns) ≡ limited (length ns + 1 + deepest) (inside m ns) → (length ns + 1 + depth_of c.0 ≤ 64) ⊎ (64 < length ns + 1 + depth_of c.0) → run_events lets (events_of c.0 ++ rest) (inside m ns) ≡ limited (length ns + 1 + fold max 0 (depth_of c.0 ∷ map depth_of (map (λ e. e.0) cs))) (inside m ns)
    one p q (inl l) =
        let first : run_events lets (events_of c.0) (inside m ns) ≡ Some (inside m ns) = p ∙ limited-in (length ns + 1 + depth_of c.0) (inside m ns) l in
        run-append lets (events_of c.0) rest (inside m ns) ∙ (ap (λ (o : Option Place). o >>= run_events lets rest) first ∙ (q ∙ (limited-max (length ns + 1) (depth_of c.0) deepest (inside m ns) l ∙ ap (λ (d : ℕ). limited (length ns + 1 + d) (inside m ns)) (sym (fold-max-cons (depth_of c.0) (map depth_of (map (λ e. e.0) cs)))))))
    one p q (inr l) =
        let first : run_events lets (events_of c.0) (inside m ns) ≡ None = p ∙ limited-out (length ns + 1 + depth_of c.0) (inside m ns) l in
        let deep : fold max 0 (depth_of c.0 ∷ map depth_of (map (λ e. e.0) cs)) ≡ max (depth_of c.0) deepest = fold-max-cons (depth_of c.0) (map depth_of (map (λ e. e.0) cs)) in
        let far : 64 < length ns + 1 + fold max 0 (depth_of c.0 ∷ map depth_of (map (λ e. e.0) cs)) = omega arith in
        run-append lets (events_of c.0) rest (inside m ns) ∙ (ap (λ (o : Option Place). o >>= run_events lets rest) first ∙ sym (limited-out (length ns + 1 + fold max 0 (depth_of c.0 ∷ map depth_of (map (λ e. e.0) cs))) (inside m ns) far))

abbrev SoundNode : Bool → Type 0
SoundNode lets = (n : Node) × NodeRuns lets n

abbrev SoundElement : Bool → Type 0
SoundElement lets = (e : Element) × ElementRuns lets e

node-case : (lets : Bool) (y : Node-F (SoundNode lets) (SoundElement lets)) → NodeRuns lets (roll-Node (map-Node (SoundNode lets) (SoundElement lets) Node Element (λ e. e.0) (λ e. e.0) y))
node-case lets (Node-F.Element e) m ns h =
    let events : events_of (roll-Node (Node-F.Element e.0)) ≡ events_of_element e.0 = fold-roll-Node (List Event) (List Event) node_events element_events (Node-F.Element e.0) in
    let depth : depth_of (roll-Node (Node-F.Element e.0)) ≡ depth_of_element e.0 = fold-roll-Node ℕ ℕ node_depth element_depth (Node-F.Element e.0) in
    let sum : length (m ∷ ns) + depth_of_element e.0 ≡ length ns + 1 + depth_of (roll-Node (Node-F.Element e.0)) = omega arith in
    ap (λ (es : List Event). run_events lets es (inside m ns)) events ∙ (e.1 (m ∷ ns) ∙ ap (λ (d : ℕ). limited d (inside m ns)) sum)
node-case lets (Node-F.Text t) m ns h =
    let events : events_of (roll-Node (Node-F.Text t)) ≡ Chars t.value t.span ∷ [] = fold-roll-Node (List Event) (List Event) node_events element_events (Node-F.Text t) in
    let depth : depth_of (roll-Node (Node-F.Text t)) ≡ 0 = fold-roll-Node ℕ ℕ node_depth element_depth (Node-F.Text t) in
    ap (λ (es : List Event). run_events lets es (inside m ns)) events ∙ sym (limited-in (length ns + 1 + depth_of (roll-Node (Node-F.Text t))) (inside m ns) (omega arith))

same-bytes : (name : List ℕ) → bytes_eq name name ≡ true
same-bytes name = (bytes_eq-Decides name name).1 refl

abbrev around : List ℕ → List Attribute → ℕ → ℕ → List Event → List Event
around name attributes start end inner = Begin name attributes start ∷ inner ++ End name end ∷ []

-- an element runs through where its parts do
element-run : (lets : Bool) (name : List ℕ) (attributes : List Attribute) (start end : ℕ) (inner : List Event) (deepest : ℕ) (ns : List (List ℕ)) → (length ns + 1 ≤ 64 → run_events lets inner (inside name ns) ≡ limited (length ns + 1 + deepest) (inside name ns)) → run_events lets (around name attributes start end inner) (record { names = ns; closed = false }) ≡ limited (length ns + (deepest + 1)) (settled ns)
element-run lets name attributes start end inner deepest ns parts = begun (within (length ns + 1))
  where
    tail : List Event
    tail = inner ++ End name end ∷ []

    ended : length ns + 1 ≤ 64 → (length ns + 1 + deepest ≤ 64) ⊎ (64 < length ns + 1 + deepest) → run_events lets tail (inside name ns) ≡ limited (length ns + (deepest + 1)) (settled ns)
    ended l (inl d) =
        let through : run_events lets inner (inside name ns) ≡ Some (inside name ns) = parts l ∙ limited-in (length ns + 1 + deepest) (inside name ns) d in
        let closes : run_events lets (End name end ∷ []) (inside name ns) ≡ Some (settled ns) = rw (same-bytes name) refl in
        run-append lets inner (End name end ∷ []) (inside name ns) ∙ (ap (λ (o : Option Place). o >>= run_events lets (End name end ∷ [])) through ∙ (closes ∙ sym (limited-in (length ns + (deepest + 1)) (settled ns) (omega arith))))
    ended l (inr d) =
        let through : run_events lets inner (inside name ns) ≡ None = parts l ∙ limited-out (length ns + 1 + deepest) (inside name ns) d in
        run-append lets inner (End name end ∷ []) (inside name ns) ∙ (ap (λ (o : Option Place). o >>= run_events lets (End name end ∷ [])) through ∙ sym (limited-out (length ns + (deepest + 1)) (settled ns) (omega arith)))

    begun : (length ns + 1 ≤ 64) ⊎ (64 < length ns + 1) → run_events lets (around name attributes start end inner) (record { names = ns; closed = false }) ≡ limited (length ns + (deepest + 1)) (settled ns)
    begun (inl l) = rw (lt-ltb (length ns) 64 (omega arith)) (ended l (within (length ns + 1 + deepest)))
    begun (inr l) = rw (le-ltb (length ns) 64 (omega arith)) (sym (limited-out (length ns + (deepest + 1)) (settled ns) (omega arith)))

element-case : (lets : Bool) (y : Element-F (SoundNode lets) (SoundElement lets)) → ElementRuns lets (roll-Element (map-Element (SoundNode lets) (SoundElement lets) Node Element (λ e. e.0) (λ e. e.0) y))
element-case lets y ns =
    let x = map-Element (SoundNode lets) (SoundElement lets) Node Element (λ e. e.0) (λ e. e.0) y in
    let inner = flat_map (λ (es : List Event). es) (map events_of (map (λ e. e.0) y.children)) in
    let deepest = fold max 0 (map depth_of (map (λ e. e.0) y.children)) in
    let events : events_of_element (roll-Element x) ≡ around y.name y.attributes y.span.start y.span.end inner = fold-roll-Element (List Event) (List Event) node_events element_events x in
    let depth : depth_of_element (roll-Element x) ≡ deepest + 1 = fold-roll-Element ℕ ℕ node_depth element_depth x in
    let sum : length ns + (deepest + 1) ≡ length ns + depth_of_element (roll-Element x) = omega arith in
    ap (λ (es : List Event). run_events lets es (record { names = ns; closed = false })) events
    ∙ (element-run lets y.name y.attributes y.span.start y.span.end inner deepest ns (children-run lets y.children y.name ns)
    ∙ ap (λ (d : ℕ). limited d (settled ns)) sum)

-- a tree runs through where it isn't too deep
pub tree-runs : (lets : Bool) (e : Element) → ElementRuns lets e
tree-runs lets = ind-Element (NodeRuns lets) (ElementRuns lets) (λ x y is. subst (λ (z : Node-F Node Element). NodeRuns lets (roll-Node z)) is (node-case lets y)) (λ x y is. subst (λ (z : Element-F Node Element). ElementRuns lets (roll-Element z)) is (element-case lets y))

pub root-runs : (e : Element) → depth_of_element e ≤ 64 → run_events false (events_of_element e) outset ≡ Some (settled [])
root-runs e h = tree-runs false e [] ∙ limited-in (0 + depth_of_element e) (settled []) (omega arith)

-- a tree that is too deep gets stuck
pub root-deep : (e : Element) → (run_events true (events_of_element e) outset ≡ None → ⊥) → depth_of_element e ≤ 64
root-deep e h = of (within (0 + depth_of_element e))
  where
    of : (0 + depth_of_element e ≤ 64) ⊎ (64 < 0 + depth_of_element e) → depth_of_element e ≤ 64
    of (inl l) = omega arith
    of (inr l) = absurd (h (tree-runs true e [] ∙ limited-out (0 + depth_of_element e) (settled []) l))
