-- Connections of in-outs, and names of the formal parameters of a call.
use Rattle.std.proofs.Common.{◌≡◌, ℕ, ◌≤◌, ◌⊎◌, inl, inr, Bool, true, false, cond, not, ◌&&◌, List, [], ◌∷◌, map, length, Option, Some, None, slice_get, refl, sym, ap, ◌∙◌, subst, arith}
use Rattle.std.specs.Prelude.{is_none, nat_eq, option_and_then, option_map}
use Rattle.std.specs.List.{Contains, filter, filter_map, cons_option, list_any, zip}
use Rattle.std.specs.Str.{bytes_eq}
use Rattle.std.proofs.lemmas.Bool.{or_parts, or_from, and_from, eqb-true}
use Rattle.std.proofs.lemmas.Option.{slice_get-get_or}
use Rattle.plcx_types.specs.declared.ty.Ty.{Ty}
use Rattle.plcx_std.specs.declared.kind.StdKind.{StdKind}
use Rattle.plcx_std.specs.declared.kind.StdKind.TheVariants as kinds
use Rattle.plcx_meaning.specs.Layout.{variable_named}
use Rattle.plcx_meaning.specs.Standard.{pin_blocks}
use Rattle.plcx_meaning.proofs.Names.{bytes_apart}
use Rattle.plcx_types.specs.Lists.{Each}
use Rattle.plcx_types.specs.Name.{in_lower_case}
use Rattle.plcx_meaning.specs.Base.{are_distinct}
use Rattle.plcx_meaning.specs.Diagram.{InOutPin}
use Rattle.plcx_meaning.specs.Fits.{all_listed}
use Rattle.plcx_meaning.specs.Layout as layout
use Rattle.plcx_meaning.specs.Tree as tree
use Rattle.plcx_meaning.proofs.Lists.{IsNew, contains_cases, contains_first, contains_later, contains_none, distinct_from}
use Rattle.plcx_model.specs.declared.body.Connection.{Connection}
use Rattle.plcx_model.specs.declared.body.PinIn.{PinIn}
use Rattle.plcx_model.specs.declared.body.BodyElement.{BodyElement}
use Rattle.plcx_model.specs.declared.project.ListClass.{ListClass}
use Rattle.plcx_model.specs.declared.project.ListClass.TheVariants as class
use Rattle.plcx_model.specs.declared.project.Pou.{Pou}
use Rattle.plcx_model.specs.declared.source.Source.{Source}
use Rattle.plcx_rules.specs.Texts.{same_name}
use Rattle.plcx_rules.specs.Declarations.{Declaration, plain_type, same_class}
use Rattle.plcx_rules.specs.Callees.{BlockPin, is_enable, is_connected, present, pin_of}
use Rattle.plcx_rules.specs.LinkRules.{has_double, names_of}
use Rattle.plcx_rules.specs.Sources.{place_of_id, producer, source, source_at, source_of, sources_at, output_place}
use Rattle.plcx_view.specs.Blocks.{Wired, is_taken, among}
use Rattle.plcx_view.specs.Declared.{class_of}
use Rattle.plcx_view.specs.Pins as view
use Rattle.plcx_fits.proofs.Along.{Along}
use Rattle.plcx_fits.proofs.Given.{filter_has}
use Rattle.plcx_fits.proofs.Named.{IsShown, IsPinOf}

pub not_false : (b : Bool) → not b ≡ false → b ≡ true
not_false true h = refl
not_false false h = cc

pub not_true : (b : Bool) → not b ≡ true → b ≡ false
not_true true h = cc
not_true false h = refl

pub and_both : (a b : Bool) → a && b ≡ true → (a ≡ true) × (b ≡ true)
and_both true true h = (refl, refl)
and_both true false h = cc
and_both false b h = cc

-- where a look-up is no failure it finds something
pub some_of : {A : Type 0} (o : Option A) → is_none o ≡ false → (x : A) × (o ≡ Some x)
some_of None h = cc
some_of (Some x) h = (x, refl)

-- a list that isn't empty
pub connected_some : (i : PinIn) → is_connected i ≡ true → 1 ≤ length i.input
connected_some i h = by i.input h
  where
    by : (l : List Connection) → not (nat_eq (length l) 0) ≡ true → 1 ≤ length l
    by [] k = cc
    by (x ∷ l) k = omega arith

-- ---- the element of a source is the producer of its connection

pub record Produced (elements : List BodyElement) (o : Option BodyElement) (s : Source) : Type 0 where
  pub element : BodyElement
  pub is : o ≡ Some element
  pub there : slice_get elements s.element ≡ Some element

producer_at : (elements : List BodyElement) (name : List ℕ) (place : ℕ) (o : Option BodyElement) (s : Source) → slice_get elements place ≡ o → option_and_then (λ (e : BodyElement). option_map (source place) (output_place e.kind name)) o ≡ Some s → Produced elements o s
producer_at elements name place None s at h = absurd (cc)
producer_at elements name place (Some e) s at h = by (output_place e.kind name) h
  where
    by : (o : Option ℕ) → option_map (source place) o ≡ Some s → Produced elements (Some e) s
    by None k = absurd (cc)
    by (Some n) k = let same : source place n ≡ s = cc in record { element = e; is = refl; there = ap (λ (x : Source). slice_get elements x.element) (sym same) ∙ at }

pub producer_of : (elements : List BodyElement) (c : Connection) (s : Source) → source_of elements c ≡ Some s → Produced elements (producer elements c) s
unfolding source_of
producer_of elements c s h = by (place_of_id elements c.element) h
  where
    by : (o : Option ℕ) → option_and_then (source_at elements c.formal) o ≡ Some s → Produced elements (option_and_then (slice_get elements) o) s
    by None k = absurd (cc)
    by (Some place) k = producer_at elements c.formal place (slice_get elements place) s refl k

-- the one source of a pin with one connection
pub one_source : (elements : List BodyElement) (input : List Connection) (s : Source) → nat_eq (length input) 1 ≡ true → sources_at elements input ≡ s ∷ [] → (c : Connection) × (input ≡ c ∷ []) × (source_of elements c ≡ Some s)
one_source elements [] s one is = absurd (cc)
one_source elements (c ∷ []) s one is = (c, refl, by (source_of elements c) is)
  where
    by : (o : Option Source) → cons_option o [] ≡ s ∷ [] → o ≡ Some s
    by None k = absurd (cc)
    by (Some t) k = let same : t ≡ s = cc in ap Some same
one_source elements (c ∷ d ∷ input) s one is = let n = eqb-true (length (c ∷ d ∷ input)) 1 one in absurd (omega (arith, n))

-- ---- names

-- the connected inputs have names of their own
taken_new : (i : PinIn) (is : List PinIn) (pins : List view.Pin) → list_any (same_name i.formal) (names_of (present is)) ≡ false → IsNew (in_lower_case i.formal) (map (λ (w : Wired). in_lower_case w.0.formal) (among is_taken (zip is pins)))
taken_new i [] pins h = refl
taken_new i (x ∷ is) [] h = refl
taken_new i (x ∷ is) (pin ∷ pins) h = by (is_enable x) (is_connected x) (taken_new i is pins) h
  where
    by : (b linked : Bool) → (list_any (same_name i.formal) (names_of (present is)) ≡ false → IsNew (in_lower_case i.formal) (map (λ (w : Wired). in_lower_case w.0.formal) (among is_taken (zip is pins))))
        → list_any (same_name i.formal) (names_of (cond (not (b && not linked)) (x ∷ present is) (present is))) ≡ false
        → IsNew (in_lower_case i.formal) (map (λ (w : Wired). in_lower_case w.0.formal) (cond (not b && linked) ((x, pin) ∷ among is_taken (zip is pins)) (among is_taken (zip is pins))))
    by true true more k = more (or_parts (same_name i.formal x.formal) (list_any (same_name i.formal) (names_of (present is))) k).1
    by true false more k = more k
    by false true more k = let parts = or_parts (same_name i.formal x.formal) (list_any (same_name i.formal) (names_of (present is))) k in
        or_from (bytes_eq (in_lower_case i.formal) (in_lower_case x.formal)) (list_any (bytes_eq (in_lower_case i.formal)) (map (λ (w : Wired). in_lower_case w.0.formal) (among is_taken (zip is pins)))) parts.0 (more parts.1)
    by false false more k = more (or_parts (same_name i.formal x.formal) (list_any (same_name i.formal) (names_of (present is))) k).1

pub taken_distinct : (is : List PinIn) (pins : List view.Pin) → has_double (names_of (present is)) ≡ false → are_distinct (map (λ (w : Wired). in_lower_case w.0.formal) (among is_taken (zip is pins))) ≡ true
taken_distinct [] pins h = refl
taken_distinct (x ∷ is) [] h = refl
taken_distinct (x ∷ is) (pin ∷ pins) h = by (is_enable x) (is_connected x) (taken_distinct is pins) h
  where
    by : (b linked : Bool) → (has_double (names_of (present is)) ≡ false → are_distinct (map (λ (w : Wired). in_lower_case w.0.formal) (among is_taken (zip is pins))) ≡ true)
        → has_double (names_of (cond (not (b && not linked)) (x ∷ present is) (present is))) ≡ false
        → are_distinct (map (λ (w : Wired). in_lower_case w.0.formal) (cond (not b && linked) ((x, pin) ∷ among is_taken (zip is pins)) (among is_taken (zip is pins)))) ≡ true
    by true true more k = more (or_parts (list_any (same_name x.formal) (names_of (present is))) (has_double (names_of (present is))) k).1
    by true false more k = more k
    by false true more k = let parts = or_parts (list_any (same_name x.formal) (names_of (present is))) (has_double (names_of (present is))) k in
        distinct_from (in_lower_case x.formal) (map (λ (w : Wired). in_lower_case w.0.formal) (among is_taken (zip is pins))) (taken_new x is pins parts.0) (more parts.1)
    by false false more k = more (or_parts (list_any (same_name x.formal) (names_of (present is))) (has_double (names_of (present is))) k).1

-- and so have the in-outs
bound_new : (i : PinIn) (is : List PinIn) (pins : List view.Pin) → list_any (same_name i.formal) (names_of is) ≡ false → IsNew (in_lower_case i.formal) (map (λ (w : Wired). in_lower_case w.0.formal) (zip is pins))
bound_new i [] pins h = refl
bound_new i (x ∷ is) [] h = refl
bound_new i (x ∷ is) (pin ∷ pins) h =
    let parts = or_parts (same_name i.formal x.formal) (list_any (same_name i.formal) (names_of is)) h in
    or_from (bytes_eq (in_lower_case i.formal) (in_lower_case x.formal)) (list_any (bytes_eq (in_lower_case i.formal)) (map (λ (w : Wired). in_lower_case w.0.formal) (zip is pins))) parts.0 (bound_new i is pins parts.1)

pub bound_distinct : (is : List PinIn) (pins : List view.Pin) → has_double (names_of is) ≡ false → are_distinct (map (λ (w : Wired). in_lower_case w.0.formal) (zip is pins)) ≡ true
bound_distinct [] pins h = refl
bound_distinct (x ∷ is) [] h = refl
bound_distinct (x ∷ is) (pin ∷ pins) h =
    let parts = or_parts (list_any (same_name x.formal) (names_of is)) (has_double (names_of is)) h in
    distinct_from (in_lower_case x.formal) (map (λ (w : Wired). in_lower_case w.0.formal) (zip is pins)) (bound_new x is pins parts.0) (bound_distinct is pins parts.1)

-- a listed in-out has a pin
pub zip_has : (is : List PinIn) (pins : List view.Pin) (i : PinIn) → length is ≤ length pins → Contains is i → (pin : view.Pin) × Contains (zip is pins) (i, pin)
zip_has [] pins i long there = absurd (contains_none i there)
zip_has (x ∷ is) [] i long there = absurd (omega (arith, long))
zip_has (x ∷ is) (pin ∷ pins) i long there = elim (contains_cases x is i there) [
  | inl same ↦ (pin, subst (λ (y : PinIn). Contains ((x, pin) ∷ zip is pins) (y, pin)) same (contains_first (x, pin) (zip is pins)))
  | inr k ↦ let r = zip_has is pins i (omega (arith, long)) k in (r.0, contains_later (x, pin) (zip is pins) (i, r.0) r.1)
]

-- ---- in-outs of a function block

filter_map_has : {A B : Type 0} (f : A → Option B) (xs : List A) (x : A) (y : B) → Contains xs x → f x ≡ Some y → Contains (filter_map f xs) y
filter_map_has f [] x y there is = absurd (contains_none x there)
filter_map_has f (z ∷ xs) x y there is = by (f z) refl (λ k. filter_map_has f xs x y k is) (contains_cases z xs x there)
  where
    by : (o : Option _) → f z ≡ o → (Contains xs x → Contains (filter_map f xs) y) → (z ≡ x) ⊎ Contains xs x → Contains (cons_option o (filter_map f xs)) y
    by None e later (inl same) = absurd (let h : None ≡ Some y = sym e ∙ ap f same ∙ is in cc)
    by None e later (inr k) = later k
    by (Some w) e later (inl same) = let h : Some w ≡ Some y = sym e ∙ ap f same ∙ is in let one : w ≡ y = cc in subst (λ q. Contains (w ∷ filter_map f xs) q) one (contains_first w (filter_map f xs))
    by (Some w) e later (inr k) = contains_later w (filter_map f xs) y (later k)

-- each in-out of a block is one of these, where each declared one is
pub listed_along : (pous : List Pou) (bound : List InOutPin) (ds : List Declaration) (vs : List layout.Variable) → Along (IsShown pous) ds vs
    → ((d : Declaration) (b : BlockPin) → Contains ds d → same_class d.class class.InOut ≡ true → pin_of d ≡ Some b → list_any (λ (i : InOutPin). bytes_eq (in_lower_case i.name) (in_lower_case d.variable.name)) bound ≡ true) → all_listed bound vs ≡ true
listed_along pous bound [] [] al has = refl
listed_along pous bound [] (v ∷ vs) al has = absurd al
listed_along pous bound (d ∷ ds) [] al has = absurd al
listed_along pous bound (d ∷ ds) (v ∷ vs) al has =
    and_from _ (all_listed bound vs) (by d.class refl) (listed_along pous bound ds vs al.1 (λ x b there. has x b (contains_later d ds x there)))
  where
    test : tree.Class → List ℕ → Bool
    test c name = elim c [ tree.InOut ↦ list_any (λ (i : InOutPin). bytes_eq (in_lower_case i.name) (in_lower_case name)) bound | _ ↦ true ]

    moved : (c : ListClass) → d.class ≡ c → test v.class v.name ≡ test (class_of c) d.variable.name
    moved c is = ap (λ x. test x v.name) (al.0.class ∙ ap class_of is) ∙ ap (test (class_of c)) al.0.name

    by : (c : ListClass) → d.class ≡ c → test v.class v.name ≡ true
    by class.Local is = moved class.Local is
    by class.Input is = moved class.Input is
    by class.Output is = moved class.Output is
    by class.InOut is =
        let one = al.0.plain (λ h. let k : class.InOut ≡ class.Local = sym is ∙ h in cc) in
        moved class.InOut is ∙ has d (record { name = d.variable.name; ty = one.0 }) (contains_first d ds) (ap (λ x. same_class x class.InOut) is) (ap (λ t. option_map (λ u. let b : BlockPin = record { name = d.variable.name; ty = u } in b) (plain_type t)) one.1)

pub block_has : (c : ListClass) (ds : List Declaration) (d : Declaration) (b : BlockPin) → Contains ds d → same_class d.class c ≡ true → pin_of d ≡ Some b → Contains (filter_map pin_of (filter (λ (x : Declaration). same_class x.class c) ds)) b
block_has c ds d b there same is = filter_map_has pin_of (filter (λ (x : Declaration). same_class x.class c) ds) d b (filter_has (λ (x : Declaration). same_class x.class c) ds d there same) is

-- a pin has the name of its variable
pub pin_name : (d : Declaration) (b : BlockPin) → pin_of d ≡ Some b → b.name ≡ d.variable.name
pin_name d b h = by (plain_type d.variable.ty) h
  where
    by : (o : Option Ty) → option_map (λ t. let x : BlockPin = record { name = d.variable.name; ty = t } in x) o ≡ Some b → b.name ≡ d.variable.name
    by None k = absurd (cc)
    by (Some t) k = let x : BlockPin = record { name = d.variable.name; ty = t } in let same : x ≡ b = cc in ap (λ (y : BlockPin). y.name) (sym same)

-- where an item of a list stands
pub place_of : {A : Type 0} (xs : List A) (x : A) → Contains xs x → (n : ℕ) × (slice_get xs n ≡ Some x)
place_of xs x h = (h.0, slice_get-get_or xs h.0 x h.1 ∙ ap Some h.2)

pub none_each : {A : Type 0} (test : A → Bool) (xs : List A) → Each (λ (x : A). test x ≡ false) xs → list_any test xs ≡ false
none_each test [] h = refl
none_each test (x ∷ xs) h = or_from (test x) (list_any test xs) h.0 (none_each test xs h.1)

pub map_same : {A B C : Type 0} (f : B → C) (g : A → B) (h : A → C) (xs : List A) → Each (λ (x : A). f (g x) ≡ h x) xs → map f (map g xs) ≡ map h xs
map_same f g h [] all = refl
map_same f g h (x ∷ xs) all = ap (λ y. y ∷ map f (map g xs)) all.0 ∙ ap (λ l. h x ∷ l) (map_same f g h xs all.1)

-- a standard block has no in-outs
pub standard_listed : (n : StdKind) (bound : List InOutPin) → all_listed bound (layout.variables_of (pin_blocks n)) ≡ true
standard_listed kinds.Ton bound = refl
standard_listed kinds.Tof bound = refl
standard_listed kinds.Tp bound = refl
standard_listed kinds.Ctu bound = refl
standard_listed kinds.Ctd bound = refl
standard_listed kinds.Ctud bound = refl
standard_listed kinds.Sr bound = refl
standard_listed kinds.Rs bound = refl
standard_listed kinds.RTrig bound = refl
standard_listed kinds.FTrig bound = refl

-- one name isn't that of an input and of an in-out
pub sides_differ : (vs : List layout.Variable) (a b : BlockPin) → IsPinOf vs tree.Input a → IsPinOf vs tree.InOut b → bytes_eq (in_lower_case a.name) (in_lower_case b.name) ≡ false
sides_differ vs a b x y = bytes_apart (in_lower_case a.name) (in_lower_case b.name) (λ same.
    let one : x.variable ≡ y.variable = some_same (sym x.found ∙ ap (λ n. variable_named n vs) same ∙ y.found) in
    let k : tree.Input ≡ tree.InOut = sym x.class ∙ ap (λ (v : layout.Variable). v.class) one ∙ y.class in cc)
  where
    some_same : {v w : layout.Variable} → Some v ≡ Some w → v ≡ w
    some_same {v} {w} h = cc
