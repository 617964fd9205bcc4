-- Pieces whose bytes are made of tokens, at every offset and whatever follows them.
use Rattle.std.proofs.Common.{◌≡◌, ◌<◌, ◌+◌, ℕ, true, List, [], ◌∷◌, ◌++◌, length, map, fold, refl, ap, sym, subst, ◌∙◌, arith, append_assoc, append-nil, length-append}
use Rattle.std.specs.List.{list_all, flat_map}
use Rattle.std.proofs.lemmas.List.Concat.{flat_map-append}
use Rattle.plcx_types.specs.declared.span.Span.{Span}
use Rattle.plcx_xml.specs.Character.{is_value, is_plain, is_text}
use Rattle.plcx_xml.specs.Grammar.{IsName, Plain, SpellsAttribute, SpellsAttributes, SpellsTag, SpellsEnd, StandsAt, AreTokens, span_from}
use Rattle.plcx_xml.specs.Events.{Event, Begin, End, Chars, events_of, token_events, with_event}
use Rattle.plcx_xml.specs.declared.tree.Attribute.{Attribute}
use Rattle.plcx_xml.specs.declared.tree.Node.{Node}
use Rattle.plcx_xml.specs.declared.token.Kind.TheVariants as kind
use Rattle.plcx_xml.specs.declared.token.Token.{Token}
use Rattle.plcx_xml.proofs.Reached.{offset-next}
use Rattle.plcx_xml.proofs.Texts.{with-begin, with-ended}
use Rattle.plcx_xml.proofs.Views.{node-element, node-text, element-around}
use Rattle.plcx_bench_file.specs.Markup.{Piece, Pair, quoted, spelled, spelled_all, attributes_at, tag, start_tag, end_tag, element_of, node_of, around, element, empty, words, nothing, both}

pub record Stands (p : Piece) : Type 0 where
  pub tokens : ℕ → List Token
  pub spelled : (at : ℕ) (rest : List ℕ) → AreTokens at (p.bytes ++ rest) (tokens at) rest
  pub events : (at : ℕ) → flat_map token_events (tokens at) ≡ flat_map events_of (p.nodes at)
  pub joins : (at : ℕ) (before : List Event) → fold with_event before (flat_map events_of (p.nodes at)) ≡ before ++ flat_map events_of (p.nodes at)

-- an attribute that is written as it is
pub record IsPair (a : Pair) : Type 0 where
  pub named : IsName a.name
  pub some : 0 < length a.value
  pub inside : list_all (is_value 34) a.value ≡ true
  pub plain : list_all is_plain a.value ≡ true

abbrev pub ArePairs : List Pair → Type 0
ArePairs [] = Unit {0}
ArePairs (a ∷ more) = IsPair a × ArePairs more

abbrev placed : ℕ → Pair → Attribute
placed at a = record { name = a.name; value = a.value; span = span_from (at + 1) (length (quoted a)) }

attribute-spelled : (at : ℕ) (a : Pair) → IsPair a → SpellsAttribute at (placed at a) (spelled a)
attribute-spelled at a h = record {
  before = 32 ∷ [];
  left = [];
  right = [];
  quote = 34;
  written = a.value;
  quoted = quoted a;
  parted = (omega arith, refl);
  named = h.named;
  spaced = (refl, refl);
  inside = (refl, h.inside);
  value = (a.value ∷ [], sym (append-nil a.value), (a.value, [], sym (append-nil a.value), Plain refl h.some h.plain tt, refl));
  inner = refl;
  all = refl;
  span = refl;
}

attributes-spelled : (at : ℕ) (as_ : List Pair) → ArePairs as_ → SpellsAttributes at (attributes_at at as_) (spelled_all as_)
attributes-spelled at [] h = refl
attributes-spelled at (a ∷ more) h = (spelled a, spelled_all more, refl, attribute-spelled at a h.0, attributes-spelled (at + length (spelled a)) more h.1)

tag-spelled : (at : ℕ) (name : List ℕ) (pairs : List Pair) (close : List ℕ) → IsName name → ArePairs pairs → SpellsTag at name (attributes_at (at + 1 + length name) pairs) close (tag name pairs close)
tag-spelled at name pairs close n h = record {
  middle = spelled_all pairs;
  space = [];
  named = n;
  inner = attributes-spelled (at + 1 + length name) pairs h;
  spaced = refl;
  all = refl;
}

end-spelled : (name : List ℕ) → IsName name → SpellsEnd name (end_tag name)
end-spelled name n = record { space = []; named = n; spaced = refl; all = refl }

abbrev begun : ℕ → List ℕ → List Pair → Token
begun at name pairs = record { kind = kind.Start name (attributes_at (at + 1 + length name) pairs); span = span_from at (length (start_tag name pairs)) }

abbrev ended : ℕ → List ℕ → Token
ended at name = record { kind = kind.End name; span = span_from at (length (end_tag name)) }

begins : (at : ℕ) (name : List ℕ) (pairs : List Pair) (rest : List ℕ) → IsName name → ArePairs pairs → StandsAt at (start_tag name pairs ++ rest) (begun at name pairs) rest
begins at name pairs rest n h = record { text = start_tag name pairs; spelled = tag-spelled at name pairs (62 ∷ []) n h; whole = tt; split = refl; spanned = refl }

ends : (at : ℕ) (name rest : List ℕ) → IsName name → StandsAt at (end_tag name ++ rest) (ended at name) rest
ends at name rest n = record { text = end_tag name; spelled = end-spelled name n; whole = tt; split = refl; spanned = refl }

tokens-append : (ts us : List Token) (at k : ℕ) (bytes mid rest : List ℕ) → AreTokens at bytes ts mid → at + length bytes ≡ k + length mid → AreTokens k mid us rest → AreTokens at bytes (ts ++ us) rest
tokens-append [] us at k bytes mid rest h e g =
    let same : length bytes ≡ length mid = ap length h in
    let here : k ≡ at = omega arith in
    subst (λ (x : List ℕ). AreTokens at x us rest) (sym h) (subst (λ (x : ℕ). AreTokens x mid us rest) here g)
tokens-append (t ∷ ts) us at k bytes mid rest h e g = (h.0, h.1, tokens-append ts us t.span.end k h.0 mid rest h.2 (offset-next (k + length mid) at bytes t h.0 h.1 e) g)

fold-append : (xs ys before : List Event) → fold with_event before (xs ++ ys) ≡ fold with_event (fold with_event before xs) ys
fold-append [] ys before = refl
fold-append (x ∷ xs) ys before = fold-append xs ys (with_event before x)

-- events that are kept apart
abbrev pub Joins : List Event → Type 0
Joins es = (before : List Event) → fold with_event before es ≡ before ++ es

joins-append : (xs ys : List Event) → Joins xs → Joins ys → Joins (xs ++ ys)
joins-append xs ys h g before = fold-append xs ys before ∙ (ap (λ (b : List Event). fold with_event b ys) (h before) ∙ (g (before ++ xs) ∙ append_assoc before xs ys))

joins-begin : (name : List ℕ) (attributes : List Attribute) (start : ℕ) → Joins (Begin name attributes start ∷ [])
joins-begin name attributes start before = with-begin before name attributes start

joins-end : (name : List ℕ) (end : ℕ) → Joins (End name end ∷ [])
joins-end name end before = with-ended before name end

with-words : (es : List Event) (name : List ℕ) (attributes : List Attribute) (start : ℕ) (v : List ℕ) (s : Span) → with_event (es ++ Begin name attributes start ∷ []) (Chars v s) ≡ (es ++ Begin name attributes start ∷ []) ++ Chars v s ∷ []
with-words [] name attributes start v s = refl
with-words (e ∷ []) name attributes start v s = refl
with-words (e ∷ (f ∷ es)) name attributes start v s = ap (λ (xs : List Event). e ∷ xs) (with-words (f ∷ es) name attributes start v s)

joins-words : (name : List ℕ) (attributes : List Attribute) (start : ℕ) (v : List ℕ) (s : Span) → Joins (Begin name attributes start ∷ (Chars v s ∷ []))
joins-words name attributes start v s before =
    ap (λ (b : List Event). with_event b (Chars v s)) (with-begin before name attributes start) ∙ (with-words before name attributes start v s ∙ append_assoc before (Begin name attributes start ∷ []) (Chars v s ∷ []))

flat_map-map : {X Y : Type 0} (f : X → List Y) (xs : List X) → flat_map (λ (ys : List Y). ys) (map f xs) ≡ flat_map f xs
flat_map-map f [] = refl
flat_map-map f (x ∷ xs) = ap (λ ys. f x ++ ys) (flat_map-map f xs)

abbrev framed : List ℕ → List Attribute → ℕ → ℕ → List Event → List Event
framed name attributes start end inner = Begin name attributes start ∷ (inner ++ End name end ∷ [])

element-events : (name : List ℕ) (pairs : List Pair) (children : List Node) (at : ℕ) (bytes : List ℕ) → flat_map events_of (node_of (element_of name pairs children at bytes) ∷ []) ≡ framed name (attributes_at (at + 1 + length name) pairs) at (at + length bytes) (flat_map events_of children)
element-events name pairs children at bytes =
    append-nil (events_of (node_of (element_of name pairs children at bytes)))
    ∙ (node-element (element_of name pairs children at bytes)
    ∙ (element-around _
    ∙ ap (framed name (attributes_at (at + 1 + length name) pairs) at (at + length bytes)) (flat_map-map events_of children)))

joins-framed : (name : List ℕ) (attributes : List Attribute) (start end : ℕ) (inner : List Event) → Joins inner → Joins (framed name attributes start end inner)
joins-framed name attributes start end inner h = joins-append (Begin name attributes start ∷ []) (inner ++ End name end ∷ []) (joins-begin name attributes start) (joins-append inner (End name end ∷ []) h (joins-end name end))

pub nothing-stands : Stands nothing
nothing-stands = record { tokens = λ at. []; spelled = λ at rest. refl; events = λ at. refl; joins = λ at before. sym (append-nil before) }

pub both-stand : (p q : Piece) → Stands p → Stands q → Stands (both p q)
both-stand p q h g = record {
  tokens = λ at. h.tokens at ++ g.tokens (at + length p.bytes);
  spelled = λ at rest.
      let n = length-append p.bytes (q.bytes ++ rest) in
      rw (append_assoc p.bytes q.bytes rest) (tokens-append (h.tokens at) (g.tokens (at + length p.bytes)) at (at + length p.bytes) (p.bytes ++ (q.bytes ++ rest)) (q.bytes ++ rest) rest (h.spelled at (q.bytes ++ rest)) (omega arith) (g.spelled (at + length p.bytes) rest));
  events = λ at. flat_map-append token_events (h.tokens at) (g.tokens (at + length p.bytes))
      ∙ (ap (λ (es : List Event). es ++ flat_map token_events (g.tokens (at + length p.bytes))) (h.events at)
      ∙ (ap (λ (es : List Event). flat_map events_of (p.nodes at) ++ es) (g.events (at + length p.bytes)) ∙ sym (flat_map-append events_of (p.nodes at) (q.nodes (at + length p.bytes)))));
  joins = λ at. subst Joins (sym (flat_map-append events_of (p.nodes at) (q.nodes (at + length p.bytes)))) (joins-append (flat_map events_of (p.nodes at)) (flat_map events_of (q.nodes (at + length p.bytes))) (h.joins at) (g.joins (at + length p.bytes)));
}

pub empty-stands : (name : List ℕ) (pairs : List Pair) → IsName name → ArePairs pairs → Stands (empty name pairs)
empty-stands name pairs n h = record {
  tokens = λ at. record { kind = kind.Empty name (attributes_at (at + 1 + length name) pairs); span = span_from at (length (tag name pairs (47 ∷ (62 ∷ [])))) } ∷ [];
  spelled = λ at rest. (rest, record { text = tag name pairs (47 ∷ (62 ∷ [])); spelled = tag-spelled at name pairs (47 ∷ (62 ∷ [])) n h; whole = tt; split = refl; spanned = refl }, refl);
  events = λ at. sym (element-events name pairs [] at (tag name pairs (47 ∷ (62 ∷ []))));
  joins = λ at. subst Joins (sym (element-events name pairs [] at (tag name pairs (47 ∷ (62 ∷ []))))) (joins-framed name (attributes_at (at + 1 + length name) pairs) at (at + length (tag name pairs (47 ∷ (62 ∷ [])))) [] (λ before. sym (append-nil before)));
}

-- a piece that stands inside of an element
record Inside (p : Piece) : Type 0 where
  tokens : ℕ → List Token
  spelled : (at : ℕ) (rest : List ℕ) → AreTokens at (p.bytes ++ (60 ∷ rest)) (tokens at) (60 ∷ rest)
  events : (at : ℕ) → flat_map token_events (tokens at) ≡ flat_map events_of (p.nodes at)
  joins : (at : ℕ) (name : List ℕ) (attributes : List Attribute) (start end : ℕ) → Joins (framed name attributes start end (flat_map events_of (p.nodes at)))

inside-stands : (name : List ℕ) (pairs : List Pair) (p : Piece) → IsName name → ArePairs pairs → Inside p → Stands (element name pairs p)
inside-stands name pairs p n h g = record {
  tokens = λ at. begun at name pairs ∷ (g.tokens (at + length (start_tag name pairs)) ++ ended (at + length (start_tag name pairs) + length p.bytes) name ∷ []);
  spelled = λ at rest.
      let k = at + length (start_tag name pairs) in
      let around_it = append_assoc (start_tag name pairs) (p.bytes ++ end_tag name) rest ∙ ap (λ (xs : List ℕ). start_tag name pairs ++ xs) (append_assoc p.bytes (end_tag name) rest) in
      let behind = p.bytes ++ (end_tag name ++ rest) in
      let n1 = length-append p.bytes (end_tag name ++ rest) in
      subst (λ (xs : List ℕ). AreTokens at xs (begun at name pairs ∷ (g.tokens k ++ ended (k + length p.bytes) name ∷ [])) rest) (sym around_it)
      (behind, begins at name pairs behind n h, tokens-append (g.tokens k) (ended (k + length p.bytes) name ∷ []) k (k + length p.bytes) behind (end_tag name ++ rest) rest (g.spelled k (47 ∷ (name ++ (62 ∷ [])) ++ rest)) (omega arith) (rest, ends (k + length p.bytes) name rest n, refl));
  events = λ at.
      let k = at + length (start_tag name pairs) in
      let a = length-append (start_tag name pairs) (p.bytes ++ end_tag name) in
      let b = length-append p.bytes (end_tag name) in
      let e : k + length p.bytes + length (end_tag name) ≡ at + length (around name pairs p.bytes) = omega arith in
      ap (λ (es : List Event). Begin name (attributes_at (at + 1 + length name) pairs) at ∷ es) (flat_map-append token_events (g.tokens k) (ended (k + length p.bytes) name ∷ []))
      ∙ (ap (λ (es : List Event). framed name (attributes_at (at + 1 + length name) pairs) at (k + length p.bytes + length (end_tag name)) es) (g.events k)
      ∙ (ap (λ (end : ℕ). framed name (attributes_at (at + 1 + length name) pairs) at end (flat_map events_of (p.nodes k))) e
      ∙ sym (element-events name pairs (p.nodes k) at (around name pairs p.bytes))));
  joins = λ at. subst Joins (sym (element-events name pairs (p.nodes (at + length (start_tag name pairs))) at (around name pairs p.bytes))) (g.joins (at + length (start_tag name pairs)) name (attributes_at (at + 1 + length name) pairs) at (at + length (around name pairs p.bytes)));
}

pub element-stands : (name : List ℕ) (pairs : List Pair) (p : Piece) → IsName name → ArePairs pairs → Stands p → Stands (element name pairs p)
element-stands name pairs p n h g = inside-stands name pairs p n h (record {
  tokens = g.tokens;
  spelled = λ at rest. g.spelled at (60 ∷ rest);
  events = g.events;
  joins = λ at name_ attributes start end. joins-framed name_ attributes start end (flat_map events_of (p.nodes at)) (g.joins at);
})

words-events : (text : List ℕ) (s : Span) → flat_map events_of ((words text).nodes s.start) ≡ Chars text (span_from s.start (length text)) ∷ []
words-events text s = append-nil _ ∙ node-text (record { value = text; span = span_from s.start (length text) })

words-inside : (text : List ℕ) → 0 < length text → list_all is_text text ≡ true → Inside (words text)
words-inside text some plain = record {
  tokens = λ at. record { kind = kind.Text text; span = span_from at (length text) } ∷ [];
  spelled = λ at rest. (60 ∷ rest, record { text = text; spelled = (refl, some, plain); whole = refl; split = refl; spanned = refl }, refl);
  events = λ at. sym (words-events text (record { start = at; end = at }));
  joins = λ at name attributes start end. subst (λ (es : List Event). Joins (framed name attributes start end es)) (sym (words-events text (record { start = at; end = at })))
      (joins-append (Begin name attributes start ∷ (Chars text (span_from at (length text)) ∷ [])) (End name end ∷ []) (joins-words name attributes start text (span_from at (length text))) (joins-end name end));
}

pub words-stand : (name : List ℕ) (pairs : List Pair) (text : List ℕ) → IsName name → ArePairs pairs → 0 < length text → list_all is_text text ≡ true → Stands (element name pairs (words text))
words-stand name pairs text n h some plain = inside-stands name pairs (words text) n h (words-inside text some plain)
