-- How much feeds back in a body.
use Rattle.std.proofs.Common.{◌≡◌, ℕ, suc, ◌+◌, ◌*◌, ◌≤◌, Bool, true, false, cond, List, [], ◌∷◌, ◌++◌, map, filter, length, drop, refl, sym, ap, ◌∙◌, arith}
use Rattle.std.specs.Prelude.{not, nat_eq}
use Rattle.std.specs.List.{list_any, zip, flat_map, sum_by}
use Rattle.std.specs.Str.{bytes_eq}
use Rattle.std.proofs.lemmas.Bool.{and_parts, and_left, and_right, or_parts}
use Rattle.std.proofs.lemmas.List.{length-append, length-map}
use Rattle.std.proofs.lemmas.List.Sums.{sum_by-append, sum_by-cons}
use Rattle.plcx_types.specs.declared.ty.Ty.{Ty}
use Rattle.plcx_types.specs.Lists.{Each}
use Rattle.plcx_types.specs.Name.{in_lower_case}
use Rattle.plcx_meaning.specs.Base.{all_differ, are_distinct}
use Rattle.plcx_meaning.specs.Diagram.{Port, ports, link_reads_back, links_of, is_fed, DiagramElement}
use Rattle.plcx_meaning.specs.Diagram as diagram
use Rattle.plcx_meaning.proofs.Lists.{each_append, distinct_parts}
use Rattle.plcx_meaning.proofs.Names.{bytes_self, bytes_apart}
use Rattle.plcx_model.specs.declared.source.Source.{Source}
use Rattle.plcx_model.specs.declared.body.Connection.{Connection}
use Rattle.plcx_model.specs.declared.body.Kind.{Kind}
use Rattle.plcx_model.specs.declared.body.Kind.TheVariants as kind
use Rattle.plcx_model.specs.declared.body.BodyElement.{BodyElement}
use Rattle.plcx_model.specs.declared.project.Pou.{Pou}
use Rattle.plcx_model.specs.Sound.{connections_of, connections}
use Rattle.plcx_rules.specs.Laws.{source_counts, AreCounted}
use Rattle.plcx_rules.specs.Sources.{pins_with_sources, sources_in}
use Rattle.plcx_view.specs.Pins.{Pin, pins_from}
use Rattle.plcx_view.specs.Links.{source_of}
use Rattle.plcx_view.specs.Diagrams.{elements_from, without_networks, with_fed, elements_of}
use Rattle.plcx_fits.proofs.Pigeons.{Has, Differ, no_longer}
use Rattle.plcx_fits.proofs.Parts.{Output, same_output, outputs_equal, output_self, sources_of, elements_read, backs, backs_few, backs_have}

-- ---- how many sources there are

sources_count : (pous : List Pou) (p : Pou) (pins : List Pin) → length (sources_of pous p pins) ≡ sum_by (λ (pin : Pin). length pin.feeds) pins
sources_count pous p [] = refl
sources_count pous p (pin ∷ pins) =
    let whole = length-append (map (source_of pous p) pin.feeds) (sources_of pous p pins) in
    let one = length-map pin.feeds (source_of pous p) in
    let rest = sources_count pous p pins in
    let sum = sum_by-cons (λ (q : Pin). length q.feeds) pin pins in
    omega arith

zip_short : {A B : Type 0} (xs : List A) (ys : List B) → length (zip xs ys) ≤ length xs
zip_short [] ys = omega arith
zip_short (x ∷ xs) [] = omega arith
zip_short (x ∷ xs) (y ∷ ys) = let rest = zip_short xs ys in omega arith

feeds_count : (types : List Ty) (sources : List (List Source)) (marks : List Bool) → sum_by (λ (pin : Pin). length pin.feeds) (pins_from types sources marks) ≤ sum_by (λ (ss : List Source). length ss) sources
feeds_count [] sources marks = omega arith
feeds_count (t ∷ types) [] marks = omega arith
feeds_count (t ∷ types) (ss ∷ sources) marks =
    let one = zip_short ss marks in
    let others = pins_from types sources (drop (length ss) marks) in
    let rest = feeds_count types sources (drop (length ss) marks) in
    let left = sum_by-cons (λ (pin : Pin). length pin.feeds) (record { ty = t; feeds = zip ss marks }) others in
    let right = sum_by-cons (λ (xs : List Source). length xs) ss sources in
    omega arith

total_of_map : {A : Type 0} (f : A → ℕ) (xs : List A) → sum_by f xs ≡ sum_by (λ (m : ℕ). m) (map f xs)
total_of_map f [] = refl
total_of_map f (x ∷ xs) = sum_by-cons f x xs ∙ ap (λ m. f x + m) (total_of_map f xs) ∙ sym (sum_by-cons (λ (m : ℕ). m) (f x) (map f xs))

counted : (k : Kind) → sum_by (λ (m : ℕ). m) (source_counts k) ≤ suc (sum_by (λ (pin : List Connection). length pin) (connections_of k))
counted (kind.Continuation name) = omega arith
counted kind.Skipped = omega arith
counted kind.LeftRail = omega arith
counted (kind.RightRail input) = let e = total_of_map (λ (pin : List Connection). length pin) (connections_of (kind.RightRail input)) in omega arith
counted (kind.Contact input text mods) = let e = total_of_map (λ (pin : List Connection). length pin) (connections_of (kind.Contact input text mods)) in omega arith
counted (kind.Coil input text mods) = let e = total_of_map (λ (pin : List Connection). length pin) (connections_of (kind.Coil input text mods)) in omega arith
counted (kind.In text mods) = omega arith
counted (kind.Out input text mods) = let e = total_of_map (λ (pin : List Connection). length pin) (connections_of (kind.Out input text mods)) in omega arith
counted (kind.Block type_name instance inputs in_outs outputs) = let e = total_of_map (λ (pin : List Connection). length pin) (connections_of (kind.Block type_name instance inputs in_outs outputs)) in omega arith
counted (kind.Connector name input) = let e = total_of_map (λ (pin : List Connection). length pin) (connections_of (kind.Connector name input)) in omega arith
counted (kind.Label name) = omega arith
counted (kind.Jump label input) = let e = total_of_map (λ (pin : List Connection). length pin) (connections_of (kind.Jump label input)) in omega arith
counted (kind.Return input) = let e = total_of_map (λ (pin : List Connection). length pin) (connections_of (kind.Return input)) in omega arith

body_count : (elements es : List BodyElement) → Each (λ (e : BodyElement). map length (pins_with_sources elements e.kind) ≡ source_counts e.kind) es
    → sum_by (λ (ss : List Source). length ss) (flat_map (λ (e : BodyElement). pins_with_sources elements e.kind) es) ≤ length es + sum_by connections es
body_count elements [] all = omega arith
body_count elements (e ∷ es) all =
    let own = pins_with_sources elements e.kind in
    let others = flat_map (λ (x : BodyElement). pins_with_sources elements x.kind) es in
    let whole = sum_by-append (λ (ss : List Source). length ss) own others in
    let one = total_of_map (λ (ss : List Source). length ss) own ∙ ap (sum_by (λ (m : ℕ). m)) all.0 in
    let few = counted e.kind in
    let rest = body_count elements es all.1 in
    let sum = sum_by-cons connections e es in
    omega arith

-- a body has no more sources than elements and connections
sources_few : (elements : List BodyElement) → AreCounted elements → sum_by (λ (ss : List Source). length ss) (sources_in elements) ≤ length elements + sum_by connections elements
unfolding sources_in
sources_few elements all = body_count elements elements all

-- ---- the outputs that feed back

abbrev outputs_by : ℕ → List Port → List Output
outputs_by id os = map (λ (o : Port). let x : Output = (id, o.pin) in x) os

abbrev all_outputs : List DiagramElement → List Output
all_outputs es = flat_map (λ (e : DiagramElement). outputs_by e.id e.fed) es

-- none of some outputs is this one
abbrev Apart : Output → List Output → Type 0
Apart x ys = Each (λ y. same_output x y ≡ false) ys

abbrev AllDiffer : List Output → Type 0
AllDiffer = Differ same_output outputs_equal output_self

other_pins : (id : ℕ) (n : List ℕ) (os : List Port) → list_any (bytes_eq (in_lower_case n)) (map (λ (o : Port). in_lower_case o.pin) os) ≡ false → Apart (id, n) (outputs_by id os)
other_pins id n [] h = tt
other_pins id n (o ∷ os) h =
    let parts = or_parts (bytes_eq (in_lower_case n) (in_lower_case o.pin)) (list_any (bytes_eq (in_lower_case n)) (map (λ (x : Port). in_lower_case x.pin) os)) h in
    (and_right (nat_eq id id) (bytes_eq n o.pin) (apart parts.0), other_pins id n os parts.1)
  where
    apart : bytes_eq (in_lower_case n) (in_lower_case o.pin) ≡ false → bytes_eq n o.pin ≡ false
    apart k = bytes_apart n o.pin (λ e. let same = bytes_self (in_lower_case n) in let t : true ≡ false = sym same ∙ ap (λ m. bytes_eq (in_lower_case n) (in_lower_case m)) e ∙ k in cc)

own_differ : (id : ℕ) (os : List Port) → are_distinct (map (λ (o : Port). in_lower_case o.pin) os) ≡ true → AllDiffer (outputs_by id os)
own_differ id [] h = tt
own_differ id (o ∷ os) h = let parts = distinct_parts (in_lower_case o.pin) (map (λ (x : Port). in_lower_case x.pin) os) h in (other_pins id o.pin os parts.0, own_differ id os parts.1)

other_id : (id j : ℕ) (n : List ℕ) (os : List Port) → nat_eq id j ≡ false → Apart (id, n) (outputs_by j os)
other_id id j n [] h = tt
other_id id j n (o ∷ os) h = (and_left (nat_eq id j) (bytes_eq n o.pin) h, other_id id j n os h)

other_ids : (id : ℕ) (n : List ℕ) (es : List DiagramElement) → list_any (nat_eq id) (map (λ (e : DiagramElement). e.id) es) ≡ false → Apart (id, n) (all_outputs es)
other_ids id n [] h = tt
other_ids id n (e ∷ es) h =
    let parts = or_parts (nat_eq id e.id) (list_any (nat_eq id) (map (λ (x : DiagramElement). x.id) es)) h in
    each_append (λ y. same_output (id, n) y ≡ false) (outputs_by e.id e.fed) (all_outputs es) (other_id id e.id n e.fed parts.0) (other_ids id n es parts.1)

both_differ : (xs ys : List Output) → AllDiffer xs → AllDiffer ys → Each (λ x. Apart x ys) xs → AllDiffer (xs ++ ys)
both_differ [] ys a b apart = b
both_differ (x ∷ xs) ys a b apart = (each_append (λ y. same_output x y ≡ false) xs ys a.0 apart.0, both_differ xs ys a.1 b apart.1)

each_other : (id : ℕ) (os : List Port) (es : List DiagramElement) → list_any (nat_eq id) (map (λ (e : DiagramElement). e.id) es) ≡ false → Each (λ x. Apart x (all_outputs es)) (outputs_by id os)
each_other id [] es h = tt
each_other id (o ∷ os) es h = (other_ids id o.pin es h, each_other id os es h)

-- those that feed back have different names
abbrev AreApart : DiagramElement → Type 0
AreApart e = are_distinct (map (λ (o : Port). in_lower_case o.pin) e.fed) ≡ true

outputs_differ : (es : List DiagramElement) → all_differ (map (λ (e : DiagramElement). e.id) es) ≡ true → Each AreApart es → AllDiffer (all_outputs es)
outputs_differ [] h all = tt
outputs_differ (e ∷ es) h all =
    let parts = and_parts (not (list_any (nat_eq e.id) (map (λ (x : DiagramElement). x.id) es))) (all_differ (map (λ (x : DiagramElement). x.id) es)) h in
    let new = none (list_any (nat_eq e.id) (map (λ (x : DiagramElement). x.id) es)) parts.0 in
    both_differ (outputs_by e.id e.fed) (all_outputs es) (own_differ e.id e.fed all.0) (outputs_differ es parts.1 all.1) (each_other e.id e.fed es new)
  where
    none : (b : Bool) → not b ≡ true → b ≡ false
    none true k = absurd (cc)
    none false k = refl

outputs_count : (es : List DiagramElement) → length (all_outputs es) ≡ sum_by (λ (e : DiagramElement). length e.fed) es
outputs_count [] = refl
outputs_count (e ∷ es) =
    let whole = length-append (outputs_by e.id e.fed) (all_outputs es) in
    let one = length-map e.fed (λ (o : Port). let x : Output = (e.id, o.pin) in x) in
    let rest = outputs_count es in
    let sum = sum_by-cons (λ (x : DiagramElement). length x.fed) e es in
    omega arith

module _ (pous : List Pou) (p : Pou) (pins : List Pin) where
  abbrev bare : List DiagramElement
  bare = elements_from pous p pins p.body.elements

  abbrev q : diagram.Pou
  q = without_networks pous p bare

  abbrev HasBack : Output → Type 0
  HasBack x = Has (backs (sources_of pous p pins)) x

  have_own : (id : ℕ) (os : List Port) → Each HasBack (outputs_by id (filter (is_fed q id) os))
  have_own id [] = tt
  have_own id (o ∷ os) = by (is_fed q id o) refl (have_own id os)
    where
      by : (b : Bool) → is_fed q id o ≡ b → Each HasBack (outputs_by id (filter (is_fed q id) os)) → Each HasBack (outputs_by id (cond b (o ∷ filter (is_fed q id) os) (filter (is_fed q id) os)))
      by true e rest = (backs_have id o.pin (sources_of pous p pins) (elements_read pous p id o.pin pins p.body.elements e), rest)
      by false e rest = rest

  have_all : (es : List DiagramElement) → Each HasBack (all_outputs (map (with_fed q) es))
  have_all [] = tt
  have_all (e ∷ es) = each_append HasBack (outputs_by e.id (filter (is_fed q e.id) (ports e.kind))) (all_outputs (map (with_fed q) es)) (have_own e.id (ports e.kind)) (have_all es)

  -- no more outputs feed back than pins have sources
  pub fed_few : all_differ (map (λ (e : DiagramElement). e.id) (elements_of pous p pins)) ≡ true → Each AreApart (elements_of pous p pins) → sum_by (λ (e : DiagramElement). length e.fed) (elements_of pous p pins) ≤ sum_by (λ (pin : Pin). length pin.feeds) pins
  fed_few ids apart =
      let es = elements_of pous p pins in
      let most = no_longer same_output outputs_equal output_self (all_outputs es) (backs (sources_of pous p pins)) (outputs_differ es ids apart) (have_all bare) in
      let count = outputs_count es in
      let few = backs_few (sources_of pous p pins) in
      let sources = sources_count pous p pins in
      omega arith

with_one : (es : List DiagramElement) → sum_by (λ (e : DiagramElement). suc (length e.fed)) es ≡ length es + sum_by (λ (e : DiagramElement). length e.fed) es
with_one [] = refl
with_one (e ∷ es) =
    let left = sum_by-cons (λ (x : DiagramElement). suc (length x.fed)) e es in
    let right = sum_by-cons (λ (x : DiagramElement). length x.fed) e es in
    let rest = with_one es in
    omega arith

-- the elements of a body and what feeds back there are at most twice its elements and connections
pub body_parts : (pous : List Pou) (p : Pou) (types : List Ty) (marks : List Bool) → AreCounted p.body.elements → let es = elements_of pous p (pins_from types (sources_in p.body.elements) marks) in
    length es ≡ length p.body.elements → all_differ (map (λ (e : DiagramElement). e.id) es) ≡ true → Each AreApart es
    → sum_by (λ (e : DiagramElement). suc (length e.fed)) es ≤ 2 * (length p.body.elements + sum_by connections p.body.elements)
body_parts pous p types marks counts count ids apart =
    let pins = pins_from types (sources_in p.body.elements) marks in
    let es = elements_of pous p pins in
    let ones = with_one es in
    let few = fed_few pous p pins ids apart in
    let feeds = feeds_count types (sources_in p.body.elements) marks in
    let sources = sources_few p.body.elements counts in
    omega arith
