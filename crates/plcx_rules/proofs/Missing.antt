-- As many different names as there are, each of them one of these, are all of them. So no input of a function is missing.
use Rattle.std.proofs.Common.{◌≡◌, ℕ, zero, suc, ◌+◌, ◌≤◌, Bool, true, false, cond, not, ◌&&◌, ◌||◌, ◌⊎◌, inl, inr, List, [], ◌∷◌, length, map, Some, refl, sym, ◌∙◌, ap, subst, arith}
use Rattle.std.specs.Prelude.{is_some, is_none}
use Rattle.std.specs.List.{list_any, find, range_with_len}
use Rattle.std.proofs.lemmas.Bool.{or_parts, both_ways}
use Rattle.std.proofs.lemmas.Slice.Eq.{bytes_eq-Decides}
use Rattle.plcx_types.specs.Lists.{Each}
use Rattle.plcx_types.specs.Name.{in_lower_case}
use Rattle.plcx_funcs.specs.declared.func.Func.{Func}
use Rattle.plcx_funcs.specs.Pins.{can_have}
use Rattle.plcx_model.specs.declared.body.PinIn.{PinIn}
use Rattle.plcx_model.specs.declared.project.Pou.{Pou}
use Rattle.plcx_rules.specs.declared.callee.Callee.TheVariants as callee
use Rattle.plcx_rules.specs.Texts.{same_name}
use Rattle.plcx_rules.specs.Callees.{Formal, enable, function_input, function_inputs, inputs_of, is_enable, is_connected, present, input_count, input_formal, formal_named}
use Rattle.plcx_rules.specs.LinkRules.{has_double, names_of, inputs_fail}
use Rattle.plcx_rules.specs.Laws.{beside, IsListed, NoneIsMissing}
use Rattle.plcx_rules.proofs.Lists.{length_map, or_left, or_right}

-- ---- names that are among others

-- a text is one of some
abbrev In : List ℕ → List (List ℕ) → Type 0
In x [] = ⊥
In x (y ∷ ys) = (x ≡ y) ⊎ In x ys

-- no text stands twice
abbrev Distinct : List (List ℕ) → Type 0
Distinct [] = Unit {0}
Distinct (x ∷ xs) = (In x xs → ⊥) × Distinct xs

-- what is left of some texts without one of them
record Rest (k : List ℕ) (ms : List (List ℕ)) : Type 0 where
  left : List (List ℕ)
  count : length ms ≡ suc (length left)
  others : (m : List ℕ) → In m ms → (m ≡ k) ⊎ In m left

later : (k y : List ℕ) (ys left : List (List ℕ)) → ((m : List ℕ) → In m ys → (m ≡ k) ⊎ In m left) → (m : List ℕ) → In m (y ∷ ys) → (m ≡ k) ⊎ In m (y ∷ left)
later k y ys left others m (inl is) = inr (inl is)
later k y ys left others m (inr there) = elim (others m there) [ inl is ↦ inl is | inr more ↦ inr (inr more) ]

first : (k y : List ℕ) (ys : List (List ℕ)) → k ≡ y → (m : List ℕ) → In m (y ∷ ys) → (m ≡ k) ⊎ In m ys
first k y ys same m (inl is) = inl (is ∙ sym same)
first k y ys same m (inr there) = inr there

rest : (k : List ℕ) (ms : List (List ℕ)) → In k ms → Rest k ms
rest k [] there = absurd there
rest k (y ∷ ys) (inl same) = record { left = ys; count = refl; others = first k y ys same }
rest k (y ∷ ys) (inr there) = let r = rest k ys there in record { left = y ∷ r.left; count = ap suc r.count; others = later k y ys r.left r.others }

other : (k x : List ℕ) (ks left : List (List ℕ)) → (In k ks → ⊥) → In x ks → (x ≡ k) ⊎ In x left → In x left
other k x ks left apart there (inl is) = absurd (apart (subst (λ t. In t ks) is there))
other k x ks left apart there (inr more) = more

covers : (ks ms : List (List ℕ)) → Distinct ks → ((x : List ℕ) → In x ks → In x ms) → length ms ≤ length ks → (m : List ℕ) → In m ms → In m ks
covers [] [] apart among few m there = absurd there
covers [] (y ∷ ms) apart among few m there = absurd (omega (arith, few))
covers (k ∷ ks) ms apart among few m there =
    let r = rest k ms (among k (inl refl)) in
    let count = r.count in
    elim (r.others m there) [
      | inl is ↦ inl is
      | inr more ↦ inr (covers ks r.left apart.1 (λ x h. other k x ks r.left apart.0 h (r.others x (among x (inr h)))) (omega (arith, few, count)) m more)
    ]

-- ---- names of pins

same_is : (x y : List ℕ) → same_name x y ≡ true → in_lower_case x ≡ in_lower_case y
same_is x y h = (bytes_eq-Decides (in_lower_case x) (in_lower_case y)).0 h

same_true : (x y : List ℕ) → in_lower_case x ≡ in_lower_case y → same_name x y ≡ true
same_true x y h = (bytes_eq-Decides (in_lower_case x) (in_lower_case y)).1 h

-- names without case
abbrev keys : List PinIn → List (List ℕ)
keys pins = map (λ (p : PinIn). in_lower_case p.formal) pins

abbrev formal_keys : List Formal → List (List ℕ)
formal_keys formals = map (λ (f : Formal). in_lower_case f.name) formals

any_of : (a : List ℕ) (ps : List PinIn) → In (in_lower_case a) (keys ps) → list_any (same_name a) (names_of ps) ≡ true
any_of a [] there = absurd there
any_of a (p ∷ ps) (inl is) = or_left (same_name a p.formal) (list_any (same_name a) (names_of ps)) (same_true a p.formal is)
any_of a (p ∷ ps) (inr there) = or_right (same_name a p.formal) (list_any (same_name a) (names_of ps)) (any_of a ps there)

-- what is listed beside EN is present
present_more : (b linked : Bool) (p : PinIn) (ps : List PinIn) (x : List ℕ) → (In x (keys (beside ps)) → In x (keys (present ps)))
    → In x (keys (cond (not b) (p ∷ beside ps) (beside ps))) → In x (keys (cond (not (b && not linked)) (p ∷ present ps) (present ps)))
present_more true true p ps x more there = inr (more there)
present_more true false p ps x more there = more there
present_more false linked p ps x more (inl is) = inl is
present_more false linked p ps x more (inr there) = inr (more there)

is_present : (ps : List PinIn) (x : List ℕ) → In x (keys (beside ps)) → In x (keys (present ps))
is_present [] x there = there
is_present (p ∷ ps) x there = present_more (is_enable p) (is_connected p) p ps x (is_present ps x) there

-- no name stands twice beside EN
distinct_more : (b linked : Bool) (p : PinIn) (ps : List PinIn) → (has_double (names_of (present ps)) ≡ false → Distinct (keys (beside ps)))
    → has_double (names_of (cond (not (b && not linked)) (p ∷ present ps) (present ps))) ≡ false → Distinct (keys (cond (not b) (p ∷ beside ps) (beside ps)))
distinct_more true true p ps more h = more (or_parts (list_any (same_name p.formal) (names_of (present ps))) (has_double (names_of (present ps))) h).1
distinct_more true false p ps more h = more h
distinct_more false linked p ps more h =
    let parts = or_parts (list_any (same_name p.formal) (names_of (present ps))) (has_double (names_of (present ps))) h in
    ((λ there. both_ways _ parts.0 (any_of p.formal (present ps) (is_present ps (in_lower_case p.formal) there))), more parts.1)

are_distinct : (ps : List PinIn) → has_double (names_of (present ps)) ≡ false → Distinct (keys (beside ps))
are_distinct [] h = tt
are_distinct (p ∷ ps) h = distinct_more (is_enable p) (is_connected p) p ps (are_distinct ps) h

-- a name that leads to a formal parameter is its name
found_more : (b : Bool) (a : List ℕ) (f : Formal) (fs : List Formal) → same_name a f.name ≡ b → (is_none (find (λ (g : Formal). same_name a g.name) fs) ≡ false → In (in_lower_case a) (formal_keys fs))
    → is_none (cond b (Some f) (find (λ (g : Formal). same_name a g.name) fs)) ≡ false → In (in_lower_case a) (formal_keys (f ∷ fs))
found_more true a f fs is more h = inl (same_is a f.name is)
found_more false a f fs is more h = inr (more h)

found_in : (a : List ℕ) (fs : List Formal) → is_none (find (λ (f : Formal). same_name a f.name) fs) ≡ false → In (in_lower_case a) (formal_keys fs)
found_in a [] h = cc
found_in a (f ∷ fs) h = found_more (same_name a f.name) a f fs refl (found_in a fs) h

-- a pin that leads to no formal parameter but EN and these
abbrev is_unknown : List Formal → PinIn → Bool
is_unknown fs p = is_none (formal_named p.formal (enable ∷ fs))

known_more : (b linked : Bool) (fs : List Formal) (p : PinIn) (ps : List PinIn) (x : List ℕ) → (list_any (is_unknown fs) (present ps) ≡ false → In x (keys (beside ps)) → In x (formal_keys fs))
    → (unknown : Bool) → unknown ≡ is_none (cond b (Some enable) (find (λ (f : Formal). same_name p.formal f.name) fs)) → unknown ≡ is_unknown fs p
    → list_any (is_unknown fs) (cond (not (b && not linked)) (p ∷ present ps) (present ps)) ≡ false
    → In x (keys (cond (not b) (p ∷ beside ps) (beside ps))) → In x (formal_keys fs)
known_more true true fs p ps x more unknown is same h there = more (or_parts (is_unknown fs p) (list_any (is_unknown fs) (present ps)) h).1 there
known_more true false fs p ps x more unknown is same h there = more h there
known_more false linked fs p ps x more unknown is same h (inl key) = subst (λ t. In t (formal_keys fs)) (sym key) (found_in p.formal fs (sym is ∙ (same ∙ (or_parts (is_unknown fs p) (list_any (is_unknown fs) (present ps)) h).0)))
known_more false linked fs p ps x more unknown is same h (inr there) = more (or_parts (is_unknown fs p) (list_any (is_unknown fs) (present ps)) h).1 there

are_known : (fs : List Formal) (ps : List PinIn) (x : List ℕ) → list_any (is_unknown fs) (present ps) ≡ false → In x (keys (beside ps)) → In x (formal_keys fs)
are_known fs [] x h there = absurd there
are_known fs (p ∷ ps) x h there = known_more (is_enable p) (is_connected p) fs p ps x (are_known fs ps x) (is_unknown fs p) refl refl h there

-- ---- nothing is missing

find_more : (b : Bool) (a : List ℕ) (p : PinIn) (ps : List PinIn) → same_name a p.formal ≡ b → (In (in_lower_case a) (keys ps) → is_some (find (λ (q : PinIn). same_name a q.formal) ps) ≡ true)
    → In (in_lower_case a) (keys (p ∷ ps)) → is_some (cond b (Some p) (find (λ (q : PinIn). same_name a q.formal) ps)) ≡ true
find_more true a p ps is more there = refl
find_more false a p ps is more (inl same) = absurd (both_ways _ is (same_true a p.formal same))
find_more false a p ps is more (inr there) = more there

find_pin : (a : List ℕ) (ps : List PinIn) → In (in_lower_case a) (keys ps) → is_some (find (λ (p : PinIn). same_name a p.formal) ps) ≡ true
find_pin a [] there = absurd there
find_pin a (p ∷ ps) there = find_more (same_name a p.formal) a p ps refl (find_pin a ps) there

each_listed : (inputs : List PinIn) (fs : List Formal) → ((x : List ℕ) → In x (formal_keys fs) → In x (keys (beside inputs))) → Each (IsListed inputs) fs
each_listed inputs [] all = tt
each_listed inputs (f ∷ fs) all = (find_pin f.name (beside inputs) (all (in_lower_case f.name) (inl refl)), each_listed inputs fs (λ x there. all x (inr there)))

length_range : (a n : ℕ) → length (range_with_len a n) ≡ n
length_range a zero = refl
length_range a (suc n) = ap suc (length_range (a + 1) n)

pub none_is_missing : (pous : List Pou) (f : Func) (inputs : List PinIn) → inputs_fail pous (callee.Function f) inputs ≡ false → NoneIsMissing f inputs
unfolding inputs_fail inputs_of
none_is_missing pous f inputs h =
    let n = input_count inputs in
    let fs = function_inputs f n in
    let unknown = list_any (λ (p : PinIn). is_none (input_formal pous (callee.Function f) inputs p)) (present inputs) in
    let doubled = has_double (names_of (present inputs)) in
    let parts = or_parts (not (can_have f n) || unknown) doubled h in
    let both = or_parts (not (can_have f n)) unknown parts.0 in
    let many : length (formal_keys fs) ≡ n = length_map (λ (g : Formal). in_lower_case g.name) fs ∙ (length_map (function_input f) (range_with_len 0 n) ∙ length_range 0 n) in
    let few : length (keys (beside inputs)) ≡ n = length_map (λ (p : PinIn). in_lower_case p.formal) (beside inputs) in
    each_listed inputs fs (covers (keys (beside inputs)) (formal_keys fs) (are_distinct inputs parts.1) (λ x there. are_known fs inputs x both.1 there) (omega (arith, many, few)))
