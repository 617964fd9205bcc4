-- Sources are outputs of elements, and as many as connections.
use Rattle.std.proofs.Common.{◌≡◌, ℕ, suc, ◌+◌, Bool, true, false, cond, ◌||◌, not, List, [], ◌∷◌, ◌++◌, length, map, Option, Some, None, refl, ◌∙◌, ap, subst, arith}
use Rattle.std.specs.Prelude.{nat_eq, is_some, option_map, option_and_then, slice_get}
use Rattle.std.specs.List.{list_any, position_from, cons_option}
use Rattle.std.specs.Option.{option_to_list}
use Rattle.plcx_types.specs.Lists.{Each}
use Rattle.plcx_model.specs.declared.body.Connection.{Connection}
use Rattle.plcx_model.specs.declared.body.PinIn.{PinIn}
use Rattle.plcx_model.specs.declared.body.PinOut.{PinOut}
use Rattle.plcx_model.specs.declared.body.Kind.{Kind}
use Rattle.plcx_model.specs.declared.body.Kind.TheVariants as kind
use Rattle.plcx_model.specs.declared.body.BodyElement.{BodyElement}
use Rattle.plcx_model.specs.declared.project.Pou.{Pou}
use Rattle.plcx_model.specs.declared.project.Project.{Project}
use Rattle.plcx_rules.specs.declared.rule.LinkRule.TheVariants as rule
use Rattle.plcx_rules.specs.Callees.{names_function}
use Rattle.plcx_rules.specs.Sources.{source, place_of_id, has_name, output_named, output_place, source_at, source_of, is_connector_named, connector_place, sources_at, continued, pins_with_sources, sources_in}
use Rattle.plcx_rules.specs.Items.{Item, items_in, items_from}
use Rattle.plcx_rules.specs.LinkRules.{is_among, names_no_output, breaks_connector, breaks, LinkVerdict}
use Rattle.plcx_rules.specs.Laws.{HasOutput, IsOutput, AreOutputs, source_counts, AreCounted}
use Rattle.plcx_rules.proofs.Graphs.{each_source}
use Rattle.plcx_rules.proofs.Kept.{Keeps, keeps}
use Rattle.plcx_rules.proofs.Lists.{each_split, each_of_map, each_of_flat_map, OnEvery, each_of_filter_map}

-- ---- what a position finds

record Found {A : Type 0} (t : A → Bool) (n : ℕ) (xs : List A) (i : ℕ) : Type 0 where
  behind : ℕ
  is : i ≡ n + behind
  item : A
  here : slice_get xs behind ≡ Some item
  passes : t item ≡ true

found_more : {A : Type 0} (t : A → Bool) (b : Bool) (n : ℕ) (x : A) (xs : List A) (i : ℕ) → t x ≡ b → (position_from t (n + 1) xs ≡ Some i → Found t (n + 1) xs i)
    → cond b (Some n) (position_from t (n + 1) xs) ≡ Some i → Found t n (x ∷ xs) i
found_more t true n x xs i is more h = let e : n ≡ i = cc in record { behind = 0; is = omega (arith, e); item = x; here = refl; passes = is }
found_more t false n x xs i is more h = let r = more h in let e = r.is in record { behind = suc r.behind; is = omega (arith, e); item = r.item; here = r.here; passes = r.passes }

found : {A : Type 0} (t : A → Bool) (n : ℕ) (xs : List A) (i : ℕ) → position_from t n xs ≡ Some i → Found t n xs i
found t n [] i h = cc
found t n (x ∷ xs) i h = found_more t (t x) n x xs i refl (found t (n + 1) xs i) h

-- the item at the first place that passes
item_at : {A : Type 0} (t : A → Bool) (xs : List A) (i : ℕ) → position_from t 0 xs ≡ Some i → (x : A) × (slice_get xs i ≡ Some x) × (t x ≡ true)
item_at t xs i h = let r = found t 0 xs i h in let e = r.is in (r.item, subst (λ k. slice_get xs k ≡ Some r.item) (let same : r.behind ≡ i = omega (arith, e) in same) r.here, r.passes)

any_position : {A : Type 0} (t : A → Bool) (n : ℕ) (xs : List A) → list_any t xs ≡ true → is_some (position_from t n xs) ≡ true
any_position t n [] h = cc
any_position t n (x ∷ xs) h = more (t x) n (position_from t (n + 1) xs) (list_any t xs) (any_position t (n + 1) xs) h
  where
    more : (b : Bool) (n : ℕ) (o : Option ℕ) (any : Bool) → (any ≡ true → is_some o ≡ true) → b || any ≡ true → is_some (cond b (Some n) o) ≡ true
    more true n o any rest h = refl
    more false n o any rest h = rest h

-- ---- outputs

-- a listed output
abbrev Listed : List PinOut → ℕ → Type 0
Listed outputs pin = (o : PinOut) × (slice_get outputs pin ≡ Some o)

only : (b : Bool) (o : PinOut) (outputs : List PinOut) → OnEvery (Listed (o ∷ outputs)) (cond b (Some 0) None)
only true o outputs = (o, refl)
only false o outputs = tt

position_listed : (t : PinOut → Bool) (outputs : List PinOut) (p : Option ℕ) → position_from t 0 outputs ≡ p → OnEvery (Listed outputs) p
position_listed t outputs None is = tt
position_listed t outputs (Some pin) is = let r = item_at t outputs pin is in (r.0, r.1)

named_output : (function : Bool) (outputs : List PinOut) (name : List ℕ) → OnEvery (Listed outputs) (output_named function outputs name)
named_output function [] [] = tt
named_output function (o ∷ outputs) [] = only (nat_eq (length (o ∷ outputs)) 1) o outputs
named_output function outputs (b ∷ bs) = position_listed (has_name function outputs (b ∷ bs)) outputs (position_from (has_name function outputs (b ∷ bs)) 0 outputs) refl

output_is : (k : Kind) (name : List ℕ) → OnEvery (HasOutput k) (output_place k name)
unfolding output_place
output_is kind.Skipped name = tt
output_is kind.LeftRail name = refl
output_is (kind.RightRail input) name = tt
output_is (kind.Contact input text mods) name = refl
output_is (kind.Coil input text mods) name = refl
output_is (kind.In text mods) name = refl
output_is (kind.Out input text mods) name = tt
output_is (kind.Block type_name instance inputs in_outs outputs) name = named_output (names_function type_name) outputs name
output_is (kind.Connector own input) name = tt
output_is (kind.Continuation own) name = refl
output_is (kind.Label own) name = tt
output_is (kind.Jump label input) name = tt
output_is (kind.Return input) name = tt

of_producer : (elements : List BodyElement) (place : ℕ) (e : BodyElement) (o : Option ℕ) → slice_get elements place ≡ Some e → OnEvery (HasOutput e.kind) o → OnEvery (IsOutput elements) (option_map (source place) o)
of_producer elements place e None is has = tt
of_producer elements place e (Some pin) is has = (e, is, has)

of_place : (elements : List BodyElement) (name : List ℕ) (place : ℕ) (o : Option BodyElement) → slice_get elements place ≡ o → OnEvery (IsOutput elements) (option_and_then (λ (e : BodyElement). option_map (source place) (output_place e.kind name)) o)
of_place elements name place None is = tt
of_place elements name place (Some e) is = of_producer elements place e (output_place e.kind name) is (output_is e.kind name)

of_id : (elements : List BodyElement) (name : List ℕ) (o : Option ℕ) → OnEvery (IsOutput elements) (option_and_then (source_at elements name) o)
of_id elements name None = tt
of_id elements name (Some place) = of_place elements name place (slice_get elements place) refl

of_connection : (elements : List BodyElement) (c : Connection) → OnEvery (IsOutput elements) (source_of elements c)
unfolding source_of
of_connection elements c = of_id elements c.formal (place_of_id elements c.element)

of_pins : (elements : List BodyElement) (pins : List (List Connection)) → Each (Each (IsOutput elements)) (map (sources_at elements) pins)
of_pins elements pins = each_of_map (Each (IsOutput elements)) (sources_at elements) pins (λ input. each_of_filter_map (IsOutput elements) (source_of elements) input (of_connection elements))

connector_has : (name : List ℕ) (k : Kind) → is_connector_named name k ≡ true → HasOutput k 0
unfolding is_connector_named
connector_has name kind.Skipped h = cc
connector_has name kind.LeftRail h = cc
connector_has name (kind.RightRail input) h = cc
connector_has name (kind.Contact input text mods) h = refl
connector_has name (kind.Coil input text mods) h = refl
connector_has name (kind.In text mods) h = refl
connector_has name (kind.Out input text mods) h = cc
connector_has name (kind.Block type_name instance inputs in_outs outputs) h = cc
connector_has name (kind.Connector own input) h = refl
connector_has name (kind.Continuation own) h = refl
connector_has name (kind.Label own) h = cc
connector_has name (kind.Jump label input) h = cc
connector_has name (kind.Return input) h = cc

abbrev is_meant : List ℕ → BodyElement → Bool
is_meant name e = is_connector_named name e.kind

of_connector : (elements : List BodyElement) (name : List ℕ) (o : Option ℕ) → position_from (is_meant name) 0 elements ≡ o → Each (IsOutput elements) (option_to_list (option_map (λ place. source place 0) o))
of_connector elements name None is = tt
of_connector elements name (Some place) is = let r = item_at (is_meant name) elements place is in ((r.0, r.1, connector_has name r.0.kind r.2), tt)

of_continuation : (elements : List BodyElement) (name : List ℕ) → Each (IsOutput elements) (continued elements name)
unfolding connector_place
of_continuation elements name = of_connector elements name (position_from (is_meant name) 0 elements) refl

of_kind : (elements : List BodyElement) (k : Kind) → Each (Each (IsOutput elements)) (pins_with_sources elements k)
unfolding pins_with_sources
of_kind elements kind.Skipped = tt
of_kind elements kind.LeftRail = tt
of_kind elements (kind.RightRail input) = of_pins elements (input ∷ [])
of_kind elements (kind.Contact input text mods) = of_pins elements (input ∷ [])
of_kind elements (kind.Coil input text mods) = of_pins elements (input ∷ [])
of_kind elements (kind.In text mods) = tt
of_kind elements (kind.Out input text mods) = of_pins elements (input ∷ [])
of_kind elements (kind.Block type_name instance inputs in_outs outputs) = of_pins elements (map (λ (p : PinIn). p.input) inputs ++ map (λ (p : PinIn). p.input) in_outs)
of_kind elements (kind.Connector name input) = of_pins elements (input ∷ [])
of_kind elements (kind.Continuation name) = (of_continuation elements name, tt)
of_kind elements (kind.Label name) = tt
of_kind elements (kind.Jump label input) = of_pins elements (input ∷ [])
of_kind elements (kind.Return input) = of_pins elements (input ∷ [])

pub are_outputs : (elements : List BodyElement) → AreOutputs elements
unfolding sources_in
are_outputs elements = each_of_flat_map (Each (IsOutput elements)) (λ (e : BodyElement). pins_with_sources elements e.kind) elements (λ e. of_kind elements e.kind)

-- ---- how many

abbrev HasSource : List BodyElement → Connection → Type 0
HasSource elements c = is_some (source_of elements c) ≡ true

one_more : {A B : Type 0} (o : Option B) (xs : List A) (ys : List B) → is_some o ≡ true → length ys ≡ length xs → length (cons_option o ys) ≡ suc (length xs)
one_more None xs ys h rest = cc
one_more (Some y) xs ys h rest = ap suc rest

count_pin : (elements : List BodyElement) (input : List Connection) → Each (HasSource elements) input → length (sources_at elements input) ≡ length input
count_pin elements [] has = refl
count_pin elements (c ∷ input) has = one_more (source_of elements c) input (sources_at elements input) has.0 (count_pin elements input has.1)

count_pins : (elements : List BodyElement) (pins : List (List Connection)) → Each (Each (HasSource elements)) pins → map length (map (sources_at elements) pins) ≡ map length pins
count_pins elements [] has = refl
count_pins elements (input ∷ pins) has = ap (λ n. n ∷ map length (map (sources_at elements) pins)) (count_pin elements input has.0) ∙ ap (λ ns. length input ∷ ns) (count_pins elements pins has.1)

count_one : (o : Option ℕ) → is_some o ≡ true → length (option_to_list (option_map (λ place. source place 0) o)) ≡ 1
count_one None h = cc
count_one (Some place) h = refl

count_continuation : (elements : List BodyElement) (name : List ℕ) → is_among (is_connector_named name) elements ≡ true → length (continued elements name) ≡ 1
unfolding connector_place
count_continuation elements name h = count_one (position_from (is_meant name) 0 elements) (any_position (is_meant name) 0 elements h)

not_not : (b : Bool) → (not b ≡ true → ⊥) → b ≡ true
not_not true h = refl
not_not false h = absurd (h refl)

count_kind : (x : Item) (k : Kind) → (names_no_output x.owner.body.elements k ≡ true → ⊥) → (breaks_connector x k ≡ true → ⊥) → map length (pins_with_sources x.owner.body.elements k) ≡ source_counts k
unfolding pins_with_sources breaks_connector
count_kind x kind.Skipped h c = refl
count_kind x kind.LeftRail h c = refl
count_kind x (kind.RightRail input) h c = count_pins x.owner.body.elements (input ∷ []) (each_source x.owner.body.elements (kind.RightRail input) h)
count_kind x (kind.Contact input text mods) h c = count_pins x.owner.body.elements (input ∷ []) (each_source x.owner.body.elements (kind.Contact input text mods) h)
count_kind x (kind.Coil input text mods) h c = count_pins x.owner.body.elements (input ∷ []) (each_source x.owner.body.elements (kind.Coil input text mods) h)
count_kind x (kind.In text mods) h c = refl
count_kind x (kind.Out input text mods) h c = count_pins x.owner.body.elements (input ∷ []) (each_source x.owner.body.elements (kind.Out input text mods) h)
count_kind x (kind.Block type_name instance inputs in_outs outputs) h c =
    count_pins x.owner.body.elements (map (λ (p : PinIn). p.input) inputs ++ map (λ (p : PinIn). p.input) in_outs) (each_source x.owner.body.elements (kind.Block type_name instance inputs in_outs outputs) h)
count_kind x (kind.Connector name input) h c = count_pins x.owner.body.elements (input ∷ []) (each_source x.owner.body.elements (kind.Connector name input) h)
count_kind x (kind.Continuation name) h c = ap (λ n. n ∷ []) (count_continuation x.owner.body.elements name (not_not (is_among (is_connector_named name) x.owner.body.elements) c))
count_kind x (kind.Label name) h c = refl
count_kind x (kind.Jump label input) h c = count_pins x.owner.body.elements (input ∷ []) (each_source x.owner.body.elements (kind.Jump label input) h)
count_kind x (kind.Return input) h c = count_pins x.owner.body.elements (input ∷ []) (each_source x.owner.body.elements (kind.Return input) h)

count_body : (pous : List Pou) (k : ℕ) (p : Pou) (n : ℕ) (es : List BodyElement) → Each (Keeps pous rule.Outputs) (items_in k p n es) → Each (Keeps pous rule.Connectors) (items_in k p n es)
    → Each (λ (e : BodyElement). map length (pins_with_sources p.body.elements e.kind) ≡ source_counts e.kind) es
unfolding breaks
count_body pous k p n [] outputs connectors = tt
count_body pous k p n (e ∷ es) outputs connectors =
    let x : Item = record { pou = k; owner = p; place = n; element = e } in
    (count_kind x e.kind outputs.0 connectors.0, count_body pous k p (n + 1) es outputs.1 connectors.1)

count_all : (pous : List Pou) (k : ℕ) (ps : List Pou) → Each (Keeps pous rule.Outputs) (items_from k ps) → Each (Keeps pous rule.Connectors) (items_from k ps) → Each (λ (p : Pou). AreCounted p.body.elements) ps
count_all pous k [] outputs connectors = tt
count_all pous k (p ∷ ps) outputs connectors =
    let here = items_in k p 0 p.body.elements in
    let o = each_split (Keeps pous rule.Outputs) here (items_from (k + 1) ps) outputs in
    let c = each_split (Keeps pous rule.Connectors) here (items_from (k + 1) ps) connectors in
    (count_body pous k p 0 p.body.elements o.0 c.0, count_all pous (k + 1) ps o.1 c.1)

pub are_counted : (project : Project) → LinkVerdict project None → Each (λ (p : Pou). AreCounted p.body.elements) project.pous
are_counted project v = count_all project.pous 0 project.pous (keeps project v rule.Outputs) (keeps project v rule.Connectors)
