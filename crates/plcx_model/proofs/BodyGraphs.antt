-- The graph of a body is one.
use Rattle.std.proofs.Common.{◌≡◌, ℕ, zero, suc, ◌+◌, ◌<◌, ◌≤◌, List, [], ◌∷◌, ◌++◌, length, map, take, drop, get_or, None, pos, Bool, append_assoc, refl, sym, ◌∙◌, ap, arith}
use Rattle.plcx_types.specs.Lists.{Each}
use Rattle.plcx_model.specs.declared.body.BodyElement.{BodyElement}
use Rattle.plcx_model.specs.declared.key.Key.{Key}
use Rattle.plcx_model.specs.declared.source.Source.{Source}
use Rattle.plcx_model.specs.declared.source.Wire.{Wire}
use Rattle.plcx_model.specs.Graph.{Graph, IsGraph}
use Rattle.plcx_model.specs.Numbering.{key_of, kind_takes_part, pins_of, wires_at_pin, wires_at_pins, wires_from, body_graph, pins_in, LocalIdsDiffer, HasGraph}

length_map : {A B : Type 0} (f : A → B) (xs : List A) → length (map f xs) ≡ length xs
length_map f [] = refl
length_map f (x ∷ xs) = ap suc (length_map f xs)

each_append : {A : Type 0} (P : A → Type 0) (xs ys : List A) → Each P xs → Each P ys → Each P (xs ++ ys)
each_append P [] ys e f = f
each_append P (x ∷ xs) ys e f = (e.0, each_append P xs ys e.1 f)

each_take : {A : Type 0} (P : A → Type 0) (n : ℕ) (xs : List A) → Each P xs → Each P (take n xs)
each_take P zero xs e = tt
each_take P (suc n) [] e = tt
each_take P (suc n) (x ∷ xs) e = (e.0, each_take P n xs e.1)

each_drop : {A : Type 0} (P : A → Type 0) (n : ℕ) (xs : List A) → Each P xs → Each P (drop n xs)
each_drop P zero xs e = e
each_drop P (suc n) [] e = tt
each_drop P (suc n) (x ∷ xs) e = each_drop P n xs e.1

each_at : {A : Type 0} (P : A → Type 0) (xs : List A) (k : ℕ) (d : A) → Each P xs → k < length xs → P (get_or xs k d)
each_at P [] k d e h = absurd (omega (arith, h))
each_at P (x ∷ xs) zero d e h = e.0
each_at P (x ∷ xs) (suc k) d e h = each_at P xs k d e.1 (omega (arith, h))

-- both ends are below n
abbrev EndsBelow : ℕ → Wire → Type 0
EndsBelow n w = (w.from.element < n) × (w.to.element < n)

pin_within : (n e p : ℕ) (sources : List Source) → e < n → Each (λ (s : Source). s.element < n) sources → Each (EndsBelow n) (wires_at_pin e p sources)
pin_within n e p [] h below = tt
pin_within n e p (s ∷ sources) h below = ((below.0, h), pin_within n e p sources h below.1)

pins_within : (n e p : ℕ) (pins : List (List Source)) → e < n → Each (Each (λ (s : Source). s.element < n)) pins → Each (EndsBelow n) (wires_at_pins e p pins)
pins_within n e p [] h below = tt
pins_within n e p (sources ∷ pins) h below = each_append (EndsBelow n) (wires_at_pin e p sources) (wires_at_pins e (p + 1) pins) (pin_within n e p sources h below.0) (pins_within n e (p + 1) pins h below.1)

wires_within : (n e : ℕ) (es : List BodyElement) (pins : List (List Source)) → e + length es ≤ n → Each (Each (λ (s : Source). s.element < n)) pins → Each (EndsBelow n) (wires_from e es pins)
wires_within n e [] pins h below = tt
wires_within n e (x ∷ xs) pins h below = each_append (EndsBelow n) (wires_at_pins e 0 (take (pins_of x.kind) pins)) (wires_from (e + 1) xs (drop (pins_of x.kind) pins))
    (pins_within n e 0 (take (pins_of x.kind) pins) (omega (arith, h)) (each_take (Each (λ (s : Source). s.element < n)) (pins_of x.kind) pins below))
    (wires_within n (e + 1) xs (drop (pins_of x.kind) pins) (omega (arith, h)) (each_drop (Each (λ (s : Source). s.element < n)) (pins_of x.kind) pins below))

abbrev no_key : Key
no_key = record { order = None; y = pos 0; x = pos 0; local_id = 0 }

-- an element of the rest has another localId
other_id : (x : BodyElement) (es : List BodyElement) (v : ℕ) → Each (λ (f : BodyElement). x.local_id ≡ f.local_id → ⊥) es → v < length es → x.local_id ≡ (get_or (map key_of es) v no_key).local_id → ⊥
other_id x [] v e h same = omega (arith, h)
other_id x (y ∷ es) zero e h same = e.0 same
other_id x (y ∷ es) (suc v) e h same = other_id x es v e.1 (omega (arith, h)) same

ids_differ : (es : List BodyElement) (u v : ℕ) → LocalIdsDiffer es → u < length es → v < length es → (get_or (map key_of es) u no_key).local_id ≡ (get_or (map key_of es) v no_key).local_id → u ≡ v
ids_differ [] u v d hu hv same = absurd (omega (arith, hu))
ids_differ (x ∷ es) zero zero d hu hv same = refl
ids_differ (x ∷ es) zero (suc v) d hu hv same = absurd (other_id x es v d.0 (omega (arith, hv)) same)
ids_differ (x ∷ es) (suc u) zero d hu hv same = absurd (other_id x es u d.0 (omega (arith, hu)) (sym same))
ids_differ (x ∷ es) (suc u) (suc v) d hu hv same = ap suc (ids_differ es u v d.1 (omega (arith, hu)) (omega (arith, hv)) same)

pub is_graph : (es : List BodyElement) (pins : List (List Source)) → HasGraph es pins → IsGraph (body_graph es pins)
is_graph es pins h =
    let count : length (map key_of es) ≡ length es = length_map key_of es in
    record {
      parts = length_map (λ (e : BodyElement). kind_takes_part e.kind) es ∙ sym count;
      count = omega (arith, h.count);
      within = λ i hi.
          let ends = each_at (EndsBelow (length es)) (wires_from 0 es pins) i (record { from = record { element = 0; pin = 0 }; to = record { element = 0; pin = 0 } }) (wires_within (length es) 0 es pins (omega arith) h.within) hi in
          (omega (arith, ends.0), omega (arith, ends.1));
      differ = λ u v hu hv same. ids_differ es u v h.differ (omega arith) (omega arith) same;
    }

-- one list of keys, one of parts and one of connections make one graph
pub same_graph : (k k' : List Key) (p p' : List Bool) (w w' : List Wire) → k ≡ k' → p ≡ p' → w ≡ w' → (let g : Graph = record { keys = k; parts = p; wires = w } in g) ≡ record { keys = k'; parts = p'; wires = w' }
same_graph k k' p p' w w' e f h =
    ap (λ x. let g : Graph = record { keys = x; parts = p; wires = w } in g) e ∙ (ap (λ x. let g : Graph = record { keys = k'; parts = x; wires = w } in g) f ∙ ap (λ x. let g : Graph = record { keys = k'; parts = p'; wires = x } in g) h)

drop_plus : {A : Type 0} (m n : ℕ) (xs : List A) → drop (m + n) xs ≡ drop n (drop m xs)
drop_plus zero n xs = ap (λ k. drop k xs) (let e : 0 + n ≡ n = omega arith in e)
drop_plus (suc m) n [] = past (suc m + n) ∙ sym (past n)
  where
    past : {A : Type 0} (k : ℕ) → drop k (let xs : List A = [] in xs) ≡ []
    past zero = refl
    past (suc k) = refl
drop_plus (suc m) n (x ∷ xs) = ap (λ k. drop k (x ∷ xs)) (let e : suc m + n ≡ suc (m + n) = omega arith in e) ∙ drop_plus m n xs

-- the connections of one element more
pub wires_more : (es rest : List BodyElement) (x : BodyElement) (pins : List (List Source)) (ws new whole : List Wire) (e at count : ℕ) → es ≡ x ∷ rest → count ≡ pins_of x.kind → new ≡ ws ++ wires_at_pins e 0 (take count (drop at pins)) → ws ++ wires_from e es (drop at pins) ≡ whole → new ++ wires_from (e + 1) rest (drop (at + count) pins) ≡ whole
wires_more es rest x pins ws new whole e at count is is_count is_new all =
    let here = wires_at_pins e 0 (take count (drop at pins)) in
    let later = wires_from (e + 1) rest (drop (at + count) pins) in
    let split : wires_from e es (drop at pins) ≡ here ++ later = ap (λ xs. wires_from e xs (drop at pins)) is ∙ (ap (λ n. wires_at_pins e 0 (take n (drop at pins)) ++ wires_from (e + 1) rest (drop n (drop at pins))) (sym is_count) ∙ ap (λ ps. here ++ wires_from (e + 1) rest ps) (sym (drop_plus at count pins))) in
    ap (λ xs. xs ++ later) is_new ∙ (append_assoc ws here later ∙ (ap (λ xs. ws ++ xs) (sym split) ∙ all))

pub pins_more : (es rest : List BodyElement) (x : BodyElement) (n at count : ℕ) → es ≡ x ∷ rest → count ≡ pins_of x.kind → at + pins_in es ≡ n → (at + count) + pins_in rest ≡ n
pins_more es rest x n at count is is_count all = let split : pins_in es ≡ pins_of x.kind + pins_in rest = ap pins_in is in omega arith

pub each_nth : {A : Type 0} (P : A → Type 0) (xs : List A) (k : ℕ) (d : A) → Each P xs → k < length xs → P (get_or xs k d)
each_nth P xs k d e h = each_at P xs k d e h
