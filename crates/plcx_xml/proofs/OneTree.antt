-- Bytes stand for one tree at most: their tokens are settled, and so is the tree by what begins and ends in it.
use Rattle.std.proofs.Common.{◌≡◌, ◌<◌, ℕ, List, [], ◌∷◌, ◌++◌, length, map, refl, ap, sym, subst, ◌∙◌, arith, append_assoc, append-nil}
use Rattle.std.specs.Prelude.{⊤, fold}
use Rattle.std.specs.List.{flat_map}
use Rattle.std.proofs.lemmas.List.Concat.{flat_map-append}
use Rattle.std.proofs.lemmas.List.Sums.{fold-append}
use Rattle.plcx_types.specs.declared.span.Span.{Span}
use Rattle.plcx_xml.specs.Events.{Event, Begin, End, Chars, events_of, events_of_element, token_events, kind_events, with_event, joined}
use Rattle.plcx_xml.specs.StandsForTree.{IsBlankKind, AreBlank, StandsForTree}
use Rattle.plcx_xml.specs.declared.token.Token.{Token}
use Rattle.plcx_xml.specs.declared.token.Kind.{Kind}
use Rattle.plcx_xml.specs.declared.token.Kind.TheVariants as kind
use Rattle.plcx_xml.specs.declared.tree.Attribute.{Attribute}
use Rattle.plcx_xml.specs.declared.tree.Text.{Text}
use Rattle.plcx_xml.specs.declared.tree.Node.{Node, roll-Node}
use Rattle.plcx_xml.specs.declared.tree.Node.TheFolds.{map-Node, map-Element}
use Rattle.plcx_xml.specs.declared.tree.Node.TheOpen.{Node-F, Element-F}
use Rattle.plcx_xml.specs.declared.tree.Element.{Element, roll-Element, ind-Element}
use Rattle.plcx_xml.proofs.OneFile.{file-tokens-one}
use Rattle.plcx_xml.proofs.Views.{around, node-element, node-text, element-around, view-node, view-element}

-- a list of events that goes on with something that begins
abbrev Opens : List Event → Type 0
Opens [] = ⊥
Opens (Begin name attributes start ∷ es) = ⊤
Opens (End name end ∷ es) = ⊥
Opens (Chars value span ∷ es) = ⊤

-- and one that goes on with an element
abbrev BeginsOne : List Event → Type 0
BeginsOne [] = ⊥
BeginsOne (Begin name attributes start ∷ es) = ⊤
BeginsOne (End name end ∷ es) = ⊥
BeginsOne (Chars value span ∷ es) = ⊥

element-begins : (e : Element) (more : List Event) → BeginsOne (events_of_element e ++ more)
element-begins e more =
    let v = view-element e in
    let same : events_of_element e ≡ around v.0.name v.0.attributes v.0.span.start v.0.span.end v.0.children = ap events_of_element v.1 ∙ element-around v.0 in
    subst (λ (es : List Event). BeginsOne (es ++ more)) (sym same) tt

begins-open : (es : List Event) → BeginsOne es → Opens es
begins-open [] h = h
begins-open (Begin name attributes start ∷ es) h = h
begins-open (End name end ∷ es) h = h
begins-open (Chars value span ∷ es) h = absurd h

layer-opens : (x : Node-F Node Element) (more : List Event) → Opens (events_of (roll-Node x) ++ more)
layer-opens (Node-F.Element e) more = subst (λ (es : List Event). Opens (es ++ more)) (sym (node-element e)) (begins-open (events_of_element e ++ more) (element-begins e more))
layer-opens (Node-F.Text t) more = subst (λ (es : List Event). Opens (es ++ more)) (sym (node-text t)) tt

node-opens : (n : Node) (more : List Event) → Opens (events_of n ++ more)
node-opens n more =
    let v = view-node n in
    subst (λ (m : Node). Opens (events_of m ++ more)) (sym v.1) (layer-opens v.0 more)

-- what begins and ends in a node settles it, and what follows
abbrev NodeOne : Node → Type 0
NodeOne n = (m : Node) (xs ys : List Event) → events_of n ++ xs ≡ events_of m ++ ys → (n ≡ m) × (xs ≡ ys)

abbrev ElementOne : Element → Type 0
ElementOne e = (d : Element) (xs ys : List Event) → events_of_element e ++ xs ≡ events_of_element d ++ ys → (e ≡ d) × (xs ≡ ys)

abbrev OneNode : Type 0
OneNode = (n : Node) × NodeOne n

abbrev OneElement : Type 0
OneElement = (e : Element) × ElementOne e

no-chars : (e : Element) (xs ys : List Event) (value : List ℕ) (span : Span) → events_of_element e ++ xs ≡ Chars value span ∷ ys → ⊥
no-chars e xs ys value span h = subst BeginsOne h (element-begins e xs)

text-cases : (t u : Text) (xs ys : List Event) → ◌≡◌ {A = List Event} (Chars t.value t.span ∷ xs) (Chars u.value u.span ∷ ys) → (t ≡ u) × (xs ≡ ys)
text-cases t u xs ys h =
    let v : t.value ≡ u.value = cc in
    let s : t.span ≡ u.span = cc in
    let more : xs ≡ ys = cc in
    let same : ◌≡◌ {A = Text} (record { value = t.value; span = t.span }) (record { value = u.value; span = u.span }) = rw (v, s) refl in
    (same, more)

node-layer : (y : Node-F OneNode OneElement) (x : Node-F Node Element) (xs ys : List Event) → events_of (roll-Node (map-Node OneNode OneElement Node Element (λ e. e.0) (λ e. e.0) y)) ++ xs ≡ events_of (roll-Node x) ++ ys → (roll-Node (map-Node OneNode OneElement Node Element (λ e. e.0) (λ e. e.0) y) ≡ roll-Node x) × (xs ≡ ys)
node-layer (Node-F.Element e) (Node-F.Element d) xs ys h =
    let p : events_of_element e.0 ++ xs ≡ events_of_element d ++ ys = ap (λ (es : List Event). es ++ xs) (sym (node-element e.0)) ∙ (h ∙ ap (λ (es : List Event). es ++ ys) (node-element d)) in
    let one = e.1 d xs ys p in
    (ap (λ (c : Element). roll-Node (Node-F.Element c)) one.0, one.1)
node-layer (Node-F.Element e) (Node-F.Text u) xs ys h =
    let p : events_of_element e.0 ++ xs ≡ Chars u.value u.span ∷ ys = ap (λ (es : List Event). es ++ xs) (sym (node-element e.0)) ∙ (h ∙ ap (λ (es : List Event). es ++ ys) (node-text u)) in
    absurd (no-chars e.0 xs ys u.value u.span p)
node-layer (Node-F.Text t) (Node-F.Element d) xs ys h =
    let p : Chars t.value t.span ∷ xs ≡ events_of_element d ++ ys = ap (λ (es : List Event). es ++ xs) (sym (node-text t)) ∙ (h ∙ ap (λ (es : List Event). es ++ ys) (node-element d)) in
    absurd (no-chars d ys xs t.value t.span (sym p))
node-layer (Node-F.Text t) (Node-F.Text u) xs ys h =
    let p : ◌≡◌ {A = List Event} (Chars t.value t.span ∷ xs) (Chars u.value u.span ∷ ys) = ap (λ (es : List Event). es ++ xs) (sym (node-text t)) ∙ (h ∙ ap (λ (es : List Event). es ++ ys) (node-text u)) in
    let one = text-cases t u xs ys p in
    (ap (λ (c : Text). roll-Node (Node-F.Text c)) one.0, one.1)

node-case : (y : Node-F OneNode OneElement) → NodeOne (roll-Node (map-Node OneNode OneElement Node Element (λ e. e.0) (λ e. e.0) y))
node-case y m xs ys h =
    let v = view-node m in
    let one = node-layer y v.0 xs ys (h ∙ ap (λ (k : Node). events_of k ++ ys) v.1) in
    (one.0 ∙ sym v.1, one.1)

abbrev flat : List Node → List Event
flat ns = flat_map (λ (es : List Event). es) (map events_of ns)

children-one : (cs : List OneNode) (ds : List Node) (name other : List ℕ) (end last : ℕ) (xs ys : List Event) → flat (map (λ e. e.0) cs) ++ End name end ∷ xs ≡ flat ds ++ End other last ∷ ys → (map (λ e. e.0) cs ≡ ds) × (End name end ∷ xs ≡ End other last ∷ ys)
children-one [] [] name other end last xs ys h = (refl, h)
children-one [] (d ∷ ds) name other end last xs ys h =
    let opens : Opens ((events_of d ++ flat ds) ++ End other last ∷ ys) = subst Opens (sym (append_assoc (events_of d) (flat ds) (End other last ∷ ys))) (node-opens d (flat ds ++ End other last ∷ ys)) in
    absurd (subst Opens (sym h) opens)
children-one (c ∷ cs) [] name other end last xs ys h =
    let own = flat (map (λ e. e.0) cs) in
    let opens : Opens ((events_of c.0 ++ own) ++ End name end ∷ xs) = subst Opens (sym (append_assoc (events_of c.0) own (End name end ∷ xs))) (node-opens c.0 (own ++ End name end ∷ xs)) in
    absurd (subst Opens h opens)
children-one (c ∷ cs) (d ∷ ds) name other end last xs ys h =
    let own = flat (map (λ e. e.0) cs) in
    let p : events_of c.0 ++ (own ++ End name end ∷ xs) ≡ events_of d ++ (flat ds ++ End other last ∷ ys) = sym (append_assoc (events_of c.0) own (End name end ∷ xs)) ∙ (h ∙ append_assoc (events_of d) (flat ds) (End other last ∷ ys)) in
    let one = c.1 d (own ++ End name end ∷ xs) (flat ds ++ End other last ∷ ys) p in
    let more = children-one cs ds name other end last xs ys one.1 in
    let front : c.0 ∷ map (λ e. e.0) cs ≡ d ∷ ds = ap (λ (n : Node). n ∷ map (λ e. e.0) cs) one.0 ∙ ap (λ (ns : List Node). d ∷ ns) more.0 in
    (front, more.1)

begin-parts : (name other : List ℕ) (a b : List Attribute) (s t : ℕ) (xs ys : List Event) → ◌≡◌ {A = List Event} (Begin name a s ∷ xs) (Begin other b t ∷ ys) → (name ≡ other) × (a ≡ b) × (s ≡ t) × (xs ≡ ys)
begin-parts name other a b s t xs ys h =
    let p : name ≡ other = cc in
    let q : a ≡ b = cc in
    let r : s ≡ t = cc in
    let u : xs ≡ ys = cc in
    (p, q, r, u)

end-parts : (name other : List ℕ) (s t : ℕ) (xs ys : List Event) → ◌≡◌ {A = List Event} (End name s ∷ xs) (End other t ∷ ys) → (s ≡ t) × (xs ≡ ys)
end-parts name other s t xs ys h =
    let r : s ≡ t = cc in
    let u : xs ≡ ys = cc in
    (r, u)

same-layer : (n m : List ℕ) (a b : List Attribute) (cs ds : List Node) (s t e f : ℕ) → n ≡ m → a ≡ b → cs ≡ ds → s ≡ t → e ≡ f → roll-Element (record { name = n; attributes = a; children = cs; span = record { start = s; end = e } }) ≡ roll-Element (record { name = m; attributes = b; children = ds; span = record { start = t; end = f } })
same-layer n m a b cs ds s t e f p q r u v = rw (p, q, r, u, v) refl

element-layer : (y : Element-F OneNode OneElement) (x : Element-F Node Element) (xs ys : List Event) → around y.name y.attributes y.span.start y.span.end (map (λ e. e.0) y.children) ++ xs ≡ around x.name x.attributes x.span.start x.span.end x.children ++ ys → (roll-Element (map-Element OneNode OneElement Node Element (λ e. e.0) (λ e. e.0) y) ≡ roll-Element x) × (xs ≡ ys)
element-layer y x xs ys h =
    let own = flat (map (λ e. e.0) y.children) in
    let b = begin-parts y.name x.name y.attributes x.attributes y.span.start x.span.start ((own ++ End y.name y.span.end ∷ []) ++ xs) ((flat x.children ++ End x.name x.span.end ∷ []) ++ ys) h in
    let p : own ++ End y.name y.span.end ∷ xs ≡ flat x.children ++ End x.name x.span.end ∷ ys = sym (append_assoc own (End y.name y.span.end ∷ []) xs) ∙ (b.3 ∙ append_assoc (flat x.children) (End x.name x.span.end ∷ []) ys) in
    let c = children-one y.children x.children y.name x.name y.span.end x.span.end xs ys p in
    let e = end-parts y.name x.name y.span.end x.span.end xs ys c.1 in
    (same-layer y.name x.name y.attributes x.attributes (map (λ e. e.0) y.children) x.children y.span.start x.span.start y.span.end x.span.end b.0 b.1 c.0 b.2 e.0, e.1)

element-case : (y : Element-F OneNode OneElement) → ElementOne (roll-Element (map-Element OneNode OneElement Node Element (λ e. e.0) (λ e. e.0) y))
element-case y d xs ys h =
    let v = view-element d in
    let own = element-around (map-Element OneNode OneElement Node Element (λ e. e.0) (λ e. e.0) y) in
    let other : events_of_element d ≡ around v.0.name v.0.attributes v.0.span.start v.0.span.end v.0.children = ap events_of_element v.1 ∙ element-around v.0 in
    let one = element-layer y v.0 xs ys (ap (λ (es : List Event). es ++ xs) (sym own) ∙ (h ∙ ap (λ (es : List Event). es ++ ys) other)) in
    (one.0 ∙ sym v.1, one.1)

element-one : (e : Element) → ElementOne e
element-one = ind-Element NodeOne ElementOne (λ x y is. subst (λ (z : Node-F Node Element). NodeOne (roll-Node z)) is (node-case y)) (λ x y is. subst (λ (z : Element-F Node Element). ElementOne (roll-Element z)) is (element-case y))

-- nothing but texts
abbrev AreChars : List Event → Type 0
AreChars [] = ⊤
AreChars (Begin name attributes start ∷ es) = ⊥
AreChars (End name end ∷ es) = ⊥
AreChars (Chars value span ∷ es) = AreChars es

blank-events : (k : Kind) (span : Span) (es : List Event) → IsBlankKind k → AreChars es → AreChars (kind_events k span ++ es)
blank-events (kind.Start name attributes) span es h c = absurd h
blank-events (kind.Empty name attributes) span es h c = absurd h
blank-events (kind.End name) span es h c = absurd h
blank-events (kind.Text value) span es h c = c
blank-events (kind.Reference value) span es h c = absurd h
blank-events (kind.Cdata value) span es h c = absurd h
blank-events kind.Comment span es h c = c
blank-events kind.Instruction span es h c = c

blank-chars : (ts : List Token) → AreBlank ts → AreChars (flat_map token_events ts)
blank-chars [] h = tt
blank-chars (t ∷ ts) h = blank-events t.kind t.span (flat_map token_events ts) h.0 (blank-chars ts h.1)

chars-tail : (v w : List ℕ) (s t : Span) (xs ys : List Event) → ◌≡◌ {A = List Event} (Chars v s ∷ xs) (Chars w t ∷ ys) → xs ≡ ys
chars-tail v w s t xs ys h = cc

-- texts end where an element begins
past-chars : (es fs p q : List Event) → AreChars es → AreChars fs → BeginsOne p → BeginsOne q → es ++ p ≡ fs ++ q → p ≡ q
past-chars [] [] p q h k b c e = e
past-chars [] (Begin n a s ∷ fs) p q h k b c e = absurd k
past-chars [] (End n x ∷ fs) p q h k b c e = absurd k
past-chars [] (Chars v s ∷ fs) p q h k b c e = absurd (subst BeginsOne e b)
past-chars (Begin n a s ∷ es) fs p q h k b c e = absurd h
past-chars (End n x ∷ es) fs p q h k b c e = absurd h
past-chars (Chars v s ∷ es) [] p q h k b c e = absurd (subst BeginsOne (sym e) c)
past-chars (Chars v s ∷ es) (Begin n a t ∷ fs) p q h k b c e = absurd k
past-chars (Chars v s ∷ es) (End n x ∷ fs) p q h k b c e = absurd k
past-chars (Chars v s ∷ es) (Chars w t ∷ fs) p q h k b c e = past-chars es fs p q h k b c (chars-tail v w s t (es ++ p) (fs ++ q) e)

-- what is joined begins as it did
with-begins : (es : List Event) (f : Event) → BeginsOne (with_event es f) → (0 < length es) → BeginsOne es
with-begins [] f b l = absurd (omega arith)
with-begins (Begin n a s ∷ es) f b l = tt
with-begins (End n x ∷ []) f b l = absurd b
with-begins (End n x ∷ (e ∷ es)) f b l = absurd b
with-begins (Chars v s ∷ []) (Begin n a t) b l = absurd b
with-begins (Chars v s ∷ []) (End n x) b l = absurd b
with-begins (Chars v s ∷ []) (Chars w t) b l = absurd b
with-begins (Chars v s ∷ (e ∷ es)) f b l = absurd b

with-long : (es : List Event) (f : Event) → 0 < length (with_event es f)
with-long [] f = omega arith
with-long (Begin n a s ∷ []) f = omega arith
with-long (End n x ∷ []) f = omega arith
with-long (Chars v s ∷ []) (Begin n a t) = omega arith
with-long (Chars v s ∷ []) (End n x) = omega arith
with-long (Chars v s ∷ []) (Chars w t) = omega arith
with-long (e ∷ (g ∷ es)) f = omega arith

fold-begins : (fs es : List Event) → 0 < length es → BeginsOne (fold with_event es fs) → BeginsOne es
fold-begins [] es l b = b
fold-begins (f ∷ fs) es l b = with-begins es f (fold-begins fs (with_event es f) (with-long es f) b) l

one-begins : (e : Event) (es : List Event) → BeginsOne (e ∷ []) → BeginsOne (e ∷ es)
one-begins (Begin n a s) es b = tt
one-begins (End n x) es b = absurd b
one-begins (Chars v s) es b = absurd b

joined-begins : (es : List Event) → BeginsOne (joined es) → BeginsOne es
joined-begins [] b = b
joined-begins (e ∷ es) b = one-begins e es (fold-begins es (e ∷ []) (omega arith) b)

begins-more : (es fs : List Event) → BeginsOne es → BeginsOne (es ++ fs)
begins-more [] fs b = absurd b
begins-more (Begin n a s ∷ es) fs b = tt
begins-more (End n x ∷ es) fs b = absurd b
begins-more (Chars v s ∷ es) fs b = absurd b

-- what stands in front changes nothing behind an end
with-behind : (es gs : List Event) (f : Event) → 0 < length gs → with_event (es ++ gs) f ≡ es ++ with_event gs f
with-behind [] gs f l = refl
with-behind (e ∷ []) [] f l = absurd (omega arith)
with-behind (e ∷ []) (g ∷ gs) f l = refl
with-behind (e ∷ (d ∷ es)) gs f l = ap (λ (xs : List Event). e ∷ xs) (with-behind (d ∷ es) gs f l)

fold-behind : (fs es gs : List Event) → 0 < length gs → fold with_event (es ++ gs) fs ≡ es ++ fold with_event gs fs
fold-behind [] es gs l = refl
fold-behind (f ∷ fs) es gs l = ap (λ (xs : List Event). fold with_event xs fs) (with-behind es gs f l) ∙ fold-behind fs es (with_event gs f) (with-long gs f)

end-apart : (n : List ℕ) (x : ℕ) (fs : List Event) → (more : List Event) × (fold with_event (End n x ∷ []) fs ≡ End n x ∷ more)
end-apart n x [] = ([], refl)
end-apart n x (f ∷ fs) = (fold with_event (f ∷ []) fs, fold-behind fs (End n x ∷ []) (f ∷ []) (omega arith))

-- an element, and what is joined behind it
element-apart : (e : Element) (fs : List Event) → (more : List Event) × (fold with_event (events_of_element e) fs ≡ events_of_element e ++ more)
element-apart e fs =
    let v = view-element e in
    let same : events_of_element e ≡ around v.0.name v.0.attributes v.0.span.start v.0.span.end v.0.children = ap events_of_element v.1 ∙ element-around v.0 in
    let front = Begin v.0.name v.0.attributes v.0.span.start ∷ flat_map (λ (es : List Event). es) (map events_of v.0.children) in
    let own : events_of_element e ≡ front ++ End v.0.name v.0.span.end ∷ [] = same in
    let tail = end-apart v.0.name v.0.span.end fs in
    let all : fold with_event (events_of_element e) fs ≡ (front ++ End v.0.name v.0.span.end ∷ []) ++ tail.0 =
    ap (λ (xs : List Event). fold with_event xs fs) own ∙ (fold-behind fs front (End v.0.name v.0.span.end ∷ []) (omega arith) ∙ (ap (λ (xs : List Event). front ++ xs) tail.1 ∙ sym (append_assoc front (End v.0.name v.0.span.end ∷ []) tail.0))) in
    (tail.0, all ∙ ap (λ (xs : List Event). xs ++ tail.0) (sym own))

abbrev own : (bytes : List ℕ) (a : Element) → StandsForTree bytes a → List Event
own bytes a s = flat_map token_events s.inner ++ flat_map token_events s.after

own-begins : (bytes : List ℕ) (a : Element) (s : StandsForTree bytes a) → BeginsOne (own bytes a s)
own-begins bytes a s =
    let begins : BeginsOne (events_of_element a) = subst BeginsOne (append-nil (events_of_element a)) (element-begins a []) in
    begins-more (flat_map token_events s.inner) (flat_map token_events s.after) (joined-begins (flat_map token_events s.inner) (subst BeginsOne (sym s.same) begins))

own-joined : (bytes : List ℕ) (a : Element) (s : StandsForTree bytes a) → (more : List Event) × (joined (own bytes a s) ≡ events_of_element a ++ more)
own-joined bytes a s =
    let e = element-apart a (flat_map token_events s.after) in
    (e.0, fold-append with_event [] (flat_map token_events s.inner) (flat_map token_events s.after) ∙ (ap (λ (xs : List Event). fold with_event xs (flat_map token_events s.after)) s.same ∙ e.1))

all-events : (bytes : List ℕ) (a : Element) (s : StandsForTree bytes a) → flat_map token_events (s.before ++ (s.inner ++ s.after)) ≡ flat_map token_events s.before ++ own bytes a s
all-events bytes a s = flat_map-append token_events s.before (s.inner ++ s.after) ∙ ap (λ (es : List Event). flat_map token_events s.before ++ es) (flat_map-append token_events s.inner s.after)

pub tree-one : (bytes : List ℕ) (a b : Element) → StandsForTree bytes a → StandsForTree bytes b → a ≡ b
tree-one bytes a b s t =
    let tokens = file-tokens-one bytes (s.before ++ (s.inner ++ s.after)) (t.before ++ (t.inner ++ t.after)) s.tokens t.tokens in
    let events = sym (all-events bytes a s) ∙ (ap (flat_map token_events) tokens ∙ all-events bytes b t) in
    let same = past-chars (flat_map token_events s.before) (flat_map token_events t.before) (own bytes a s) (own bytes b t) (blank-chars s.before s.alone.0) (blank-chars t.before t.alone.0) (own-begins bytes a s) (own-begins bytes b t) events in
    let x = own-joined bytes a s in
    let y = own-joined bytes b t in
    (element-one a b x.0 y.0 (sym x.1 ∙ (ap joined same ∙ y.1))).0
