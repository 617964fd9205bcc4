-- The names of a POU of a ready unit stand for the places of their numbers, with their types.
use Rattle.std.proofs.Common.{◌≡◌, ◌≢◌, ℕ, zero, suc, ◌+◌, ◌≤◌, Bool, true, false, List, [], ◌∷◌, ◌++◌, length, length-append, map, filter, Option, Some, None, refl, sym, ap, ◌∙◌, subst, arith, inl, inr}
use Rattle.std.specs.Prelude.{slice_get, slice_index_or, option_map, unwrap_or, if◌then◌else◌}
use Rattle.std.specs.List.{Contains}
use Rattle.std.specs.Str.{bytes_eq}
use Rattle.std.proofs.lemmas.Bool.{true≢false}
use Rattle.std.proofs.lemmas.List.{length-map}
use Rattle.std.proofs.lemmas.Option.{slice_get-map, same_Some}
use Rattle.plcx_types.specs.declared.ty.Ty.{Ty}
use Rattle.plcx_types.specs.declared.ty.Ty.TheVariants as ty
use Rattle.plcx_types.specs.Name.{in_lower_case}
use Rattle.plcx_types.specs.TypeName.{type_named}
use Rattle.plcx_types.specs.Lists.{Each}
use Rattle.plcx_types.specs.Value.{Value}
use Rattle.plcx_meaning.specs.Base.{Path, are_distinct}
use Rattle.plcx_meaning.specs.Tree.{Class, Local, Input, Output, InOut, Temp, PouText}
use Rattle.plcx_meaning.specs.Layout.{Variable, variables_of, variable_named, initial_of, World, Meaning, Elementary, Composed, composed, meaning, parts, parts_of, is_kept}
use Rattle.plcx_meaning.specs.Execute.{Referent, Temporary, Kept, Bound, Instance, referent_by, referent, elementary, Formal, Takes, Binds, NoFormal, formal_by, formal, fresh, world_of, scope_of}
use Rattle.plcx_meaning.specs.Typed.{variable_in, part_in, referent_type, read_type, member_type}
use Rattle.plcx_meaning.specs.Ready.{PouIsReady}
use Rattle.plcx_meaning.proofs.Lists.{each_at, IsNew, distinct_parts, none_passes, contains_cases, contains_none, contains_first, contains_later, contains_map}
use Rattle.plcx_meaning.proofs.Lookups.{found_name}
use Rattle.plcx_meaning.proofs.Names.{bytes_self}
use Rattle.plcx_meaning.proofs.ReadyUnits.{named_each}
use Rattle.plcx_meaning.proofs.StuckBodies.{elementary_type}
use Rattle.plcx_meaning.proofs.Units.{variable_there}
use Rattle.plcx_state.specs.Stores.{HasValue}
use Rattle.plcx_steps.specs.declared.program.Operand.{Operand}
use Rattle.plcx_steps.specs.declared.program.Operand.TheVariants as operand
use Rattle.plcx_steps.specs.Numbered.{no_value, number_at}
use Rattle.plcx_steps.specs.Typed.{Shape, IsPlacedOf, IsOf}
use Rattle.plcx_meaning.specs.Evaluate.{is_in_out}
use Rattle.plcx_numbered.specs.Agreeing.{Holds, AreApart}
use Rattle.plcx_numbered.specs.Numbers.{number_of, in_out_names}
use Rattle.plcx_numbered.specs.Numbers.{Place as Lying}
use Rattle.plcx_numbered.proofs.Leaves.{meant_by, at_front}
use Rattle.plcx_numbered.proofs.Numbers.{there_at, apart_none, apart_cons}
use Rattle.plcx_runnable.specs.Shapes.{in_out_type}
use Rattle.plcx_runnable.proofs.Lists.{mapped_at, mapped_from}
use Rattle.plcx_text_numbered.specs.Agreeing.{plain_name, SameFrame}
use Rattle.plcx_text_numbered.specs.Prepared.{Place, Held, Stored, Numbering, place_source}
use Rattle.plcx_text_numbered.specs.Right.{IsPlaceOf}
use Rattle.plcx_text_numbered.specs.Numbers.{places_of, leaf_number, is_temporary, temporary_names, temporary_values, own_type, first_value, place_by, place_found, numbering, plan_of}
use Rattle.plcx_text_runnable.specs.Shapes.{types_of}
use Rattle.plcx_text_runnable.proofs.Instances.{own_place, inner_place}

abbrev pub name_of : Variable → List ℕ
name_of v = in_lower_case v.name

-- ---- variables that pass a test, by their names

-- the one of a name stands at its number
passing_at : (f : Variable → Bool) (key : List ℕ) (vs : List Variable) (v : Variable) → variable_named key vs ≡ Some v → f v ≡ true → slice_get (filter f vs) (number_of bytes_eq (map name_of (filter f vs)) key) ≡ Some v
passing_at f key [] v h is = absurd (cc)
passing_at f key (w ∷ vs) v h is = by_class (f w) refl (λ found. passing_at f key vs v found is)
  where
    Rest : Type 0
    Rest = variable_named key vs ≡ Some v → slice_get (filter f vs) (number_of bytes_eq (map name_of (filter f vs)) key) ≡ Some v

    here : (b : Bool) → (if b then Some w else variable_named key vs) ≡ Some v → Rest → slice_get (w ∷ filter f vs) (if b then 0 else number_of bytes_eq (map name_of (filter f vs)) key + 1) ≡ Some v
    here true e rest = e
    here false e rest =
        ap (slice_get (w ∷ filter f vs)) (let z : number_of bytes_eq (map name_of (filter f vs)) key + 1 ≡ suc (number_of bytes_eq (map name_of (filter f vs)) key) = omega arith in z)
        ∙ rest e

    other : (b : Bool) → f w ≡ false → (if b then Some w else variable_named key vs) ≡ Some v → Rest → slice_get (filter f vs) (number_of bytes_eq (map name_of (filter f vs)) key) ≡ Some v
    other true plain e rest = absurd (true≢false (sym is ∙ ap f (sym (same_Some w v e)) ∙ plain))
    other false plain e rest = rest e

    by_class : (a : Bool) → f w ≡ a → Rest → slice_get (if a then w ∷ filter f vs else filter f vs) (number_of bytes_eq (map name_of (if a then w ∷ filter f vs else filter f vs)) key) ≡ Some v
    by_class true e rest = here (bytes_eq (in_lower_case w.name) key) h rest
    by_class false e rest = other (bytes_eq (in_lower_case w.name) key) e h rest

pub name_at : (f : Variable → Bool) (key : List ℕ) (vs : List Variable) (v : Variable) → variable_named key vs ≡ Some v → f v ≡ true → slice_get (map name_of (filter f vs)) (number_of bytes_eq (map name_of (filter f vs)) key) ≡ Some key
name_at f key vs v h is = mapped_at name_of (filter f vs) (number_of bytes_eq (map name_of (filter f vs)) key) v (passing_at f key vs v h is) ∙ ap Some (found_name key vs v h)

-- those that pass are among all
pub passed : (f : Variable → Bool) (vs : List Variable) (v : Variable) → Contains (filter f vs) v → Contains vs v
passed f [] v h = h
passed f (w ∷ vs) v h = by_test (f w) h (λ l. passed f vs v l)
  where
    by_test : (b : Bool) → Contains (if b then w ∷ filter f vs else filter f vs) v → (Contains (filter f vs) v → Contains vs v) → Contains (w ∷ vs) v
    by_test false k rest = contains_later w vs v (rest k)
    by_test true k rest = elim (contains_cases w (filter f vs) v k) [ inl e ↦ subst (Contains (w ∷ vs)) e (contains_first w vs) | inr l ↦ contains_later w vs v (rest l) ]

-- the one at a number is found by its name
pub passing_found : (f : Variable → Bool) (vs : List Variable) → are_distinct (map name_of vs) ≡ true → (j : ℕ) (key : List ℕ) → slice_get (map name_of (filter f vs)) j ≡ Some key
    → (v : Variable) × (slice_get (filter f vs) j ≡ Some v) × (variable_named key vs ≡ Some v)
passing_found f vs distinct j key h =
    let v = mapped_from name_of (filter f vs) j key h in
    let there = passed f vs v.0 (there_at (filter f vs) j v.0 v.1) in
    (v.0, v.1, ap (λ k. variable_named k vs) (sym v.2) ∙ each_at (λ (w : Variable). variable_named (in_lower_case w.name) vs ≡ Some w) vs v.0 (named_each vs distinct) there)

-- and none stands twice
passing_apart : (f : Variable → Bool) (vs : List Variable) → are_distinct (map name_of vs) ≡ true → AreApart (map name_of (filter f vs))
passing_apart f [] h = apart_none
passing_apart f (w ∷ vs) h = by_test (f w) (passing_apart f vs parts'.1)
  where
    parts' : IsNew (in_lower_case w.name) (map name_of vs) × (are_distinct (map name_of vs) ≡ true)
    parts' = distinct_parts (in_lower_case w.name) (map name_of vs) h

    new : Contains (map name_of (filter f vs)) (in_lower_case w.name) → ⊥
    new there =
        true≢false (sym (bytes_self (in_lower_case w.name)) ∙ none_passes (bytes_eq (in_lower_case w.name)) (map name_of vs) (in_lower_case w.name) parts'.0 (among vs there))
      where
        among : (us : List Variable) → Contains (map name_of (filter f us)) (in_lower_case w.name) → Contains (map name_of us) (in_lower_case w.name)
        among [] k = k
        among (u ∷ us) k = by (f u) k (λ l. among us l)
          where
            by : (b : Bool) → Contains (map name_of (if b then u ∷ filter f us else filter f us)) (in_lower_case w.name) → (Contains (map name_of (filter f us)) (in_lower_case w.name) → Contains (map name_of us) (in_lower_case w.name))
                → Contains (map name_of (u ∷ us)) (in_lower_case w.name)
            by false c rest = contains_later (name_of u) (map name_of us) (in_lower_case w.name) (rest c)
            by true c rest =
                elim (contains_cases (name_of u) (map name_of (filter f us)) (in_lower_case w.name) c) [
                  | inl e ↦ subst (Contains (map name_of (u ∷ us))) e (contains_first (name_of u) (map name_of us))
                  | inr l ↦ contains_later (name_of u) (map name_of us) (in_lower_case w.name) (rest l)
                ]

    by_test : (b : Bool) → AreApart (map name_of (filter f vs)) → AreApart (map name_of (if b then w ∷ filter f vs else filter f vs))
    by_test true rest = apart_cons (in_lower_case w.name) (map name_of (filter f vs)) new rest
    by_test false rest = rest

-- ---- what names mean

-- a variable of an elementary type
pub record IsElementary (o : Option Variable) (t : Ty) : Type 0 where
  pub variable : Variable
  pub found : o ≡ Some variable
  pub typed : type_named variable.ty ≡ Some t

-- an instance
pub record IsInner (o : Option Variable) : Type 0 where
  pub variable : Variable
  pub found : o ≡ Some variable
  pub composite : type_named variable.ty ≡ None

pub means : (world : World) (o : Option Variable) (t : Ty) → (h : IsElementary o t) → referent world o ≡ elementary h.variable.class t
means world o t h = ap (referent world) h.found ∙ ap (λ m. referent_by (meant_by world h.variable.ty m) h.variable.class h.variable.ty) h.typed

-- what can be read is a variable of a type
pub variable_of : (world : World) (o : Option Variable) (t : Ty) → referent_type (referent world o) ≡ Some t → IsElementary o t
variable_of world None t h = absurd (cc)
variable_of world (Some v) t h = by_type (type_named v.ty) refl h
  where
    by_type : (o : Option Ty) → type_named v.ty ≡ o → referent_type (referent_by (meant_by world v.ty o) v.class v.ty) ≡ Some t → IsElementary (Some v) t
    by_type (Some u) e k = let same : Some u ≡ Some t = sym (elementary_type v.class u) ∙ k in record { variable = v; found = refl; typed = e ∙ same }
    by_type None e k = absurd (cc)

-- what has variables within is an instance
pub inner_of : (world : World) (o : Option Variable) (key : List ℕ) (w : Variable) → variable_named key (parts_of world o) ≡ Some w → IsInner o
inner_of world None key w h = absurd (cc)
inner_of world (Some v) key w h = by_type (type_named v.ty) refl h
  where
    by_type : (o : Option Ty) → type_named v.ty ≡ o → variable_named key (parts (meant_by world v.ty o)) ≡ Some w → IsInner (Some v)
    by_type (Some u) e k = absurd (cc)
    by_type None e k = record { variable = v; found = refl; composite = e }

-- an output of a type
pub record IsPart (o : Option Variable) (t : Ty) (class : Class) : Type 0 where
  pub its : IsElementary o t
  pub class_is : its.variable.class ≡ class

pub output_of : (world : World) (o : Option Variable) (t : Ty) → member_type world o ≡ Some t → IsPart o t Output
output_of world None t h = absurd (cc)
output_of world (Some v) t h = by_type (type_named v.ty) refl h
  where
    by_class : (u : Ty) → type_named v.ty ≡ Some u → (class : Class) → v.class ≡ class → read_type (Elementary u) class ≡ Some t → IsPart (Some v) t Output
    by_class u e Output c k = record { its = record { variable = v; found = refl; typed = e ∙ k }; class_is = c }
    by_class u e Local c k = absurd (cc)
    by_class u e Input c k = absurd (cc)
    by_class u e InOut c k = absurd (cc)
    by_class u e Temp c k = absurd (cc)

    by_type : (o : Option Ty) → type_named v.ty ≡ o → read_type (meant_by world v.ty o) v.class ≡ Some t → IsPart (Some v) t Output
    by_type (Some u) e k = by_class u e v.class refl k
    by_type None e k = absurd (cc)

-- an input
pub input_of : (world : World) (o : Option Variable) (t : Ty) → formal world o ≡ Takes t → IsPart o t Input
input_of world None t h = absurd (cc)
input_of world (Some v) t h = by_type (type_named v.ty) refl h
  where
    by_class : (u : Ty) → type_named v.ty ≡ Some u → (class : Class) → v.class ≡ class → formal_by (Elementary u) class ≡ Takes t → IsPart (Some v) t Input
    by_class u e Input c k = let same : u ≡ t = cc in record { its = record { variable = v; found = refl; typed = e ∙ ap Some same }; class_is = c }
    by_class u e Local c k = absurd (cc)
    by_class u e Output c k = absurd (cc)
    by_class u e InOut c k = absurd (cc)
    by_class u e Temp c k = absurd (cc)

    by_type : (o : Option Ty) → type_named v.ty ≡ o → formal_by (meant_by world v.ty o) v.class ≡ Takes t → IsPart (Some v) t Input
    by_type (Some u) e k = by_class u e v.class refl k
    by_type None e k = absurd (cc)

-- an in-out
pub in_out_of : (world : World) (o : Option Variable) (t : Ty) → formal world o ≡ Binds t → IsPart o t InOut
in_out_of world None t h = absurd (cc)
in_out_of world (Some v) t h = by_type (type_named v.ty) refl h
  where
    by_class : (u : Ty) → type_named v.ty ≡ Some u → (class : Class) → v.class ≡ class → formal_by (Elementary u) class ≡ Binds t → IsPart (Some v) t InOut
    by_class u e InOut c k = let same : u ≡ t = cc in record { its = record { variable = v; found = refl; typed = e ∙ ap Some same }; class_is = c }
    by_class u e Local c k = absurd (cc)
    by_class u e Input c k = absurd (cc)
    by_class u e Output c k = absurd (cc)
    by_class u e Temp c k = absurd (cc)

    by_type : (o : Option Ty) → type_named v.ty ≡ o → formal_by (meant_by world v.ty o) v.class ≡ Binds t → IsPart (Some v) t InOut
    by_type (Some u) e k = by_class u e v.class refl k
    by_type None e k = absurd (cc)

-- ---- their places

module _ (unit : List PouText) (p : PouText) (one : PouIsReady unit p) where
  abbrev vs : List Variable
  vs = variables_of p.blocks

  abbrev world : World
  world = world_of unit

  temporary_class : (v : Variable) → v.class ≡ Temp → is_temporary v ≡ true
  temporary_class v e = ap (λ (c : Class). elim c as (λ (x : Class). Bool) [ Temp ↦ true | _ ↦ false ]) e

  in_out_class : (v : Variable) → v.class ≡ InOut → is_in_out (Some v) ≡ true
  in_out_class v e = ap (λ (c : Class). elim c as (λ (x : Class). Bool) [ InOut ↦ true | _ ↦ false ]) e

  own_leaf : (x : List ℕ) (v : Variable) (t : Ty) → variable_named (in_lower_case x) vs ≡ Some v → type_named v.ty ≡ Some t → is_kept v.class ≡ true → slice_get (plan_of unit p).plan.paths (leaf_number unit (in_lower_case x) vs) ≡ Some (in_lower_case x ∷ [])
  own_leaf x v t found typed kept = mapped_at (λ (y : Lying). y.0) (places_of unit vs) (leaf_number unit (in_lower_case x) vs) (in_lower_case x ∷ [], t) (own_place unit p one x v t found typed kept)

  leaf_typed : (x : List ℕ) (v : Variable) (t : Ty) → variable_named (in_lower_case x) vs ≡ Some v → type_named v.ty ≡ Some t → is_kept v.class ≡ true → slice_get (types_of unit p).leaves (leaf_number unit (in_lower_case x) vs) ≡ Some t
  leaf_typed x v t found typed kept = mapped_at (λ (y : Lying). y.1) (places_of unit vs) (leaf_number unit (in_lower_case x) vs) (in_lower_case x ∷ [], t) (own_place unit p one x v t found typed kept)

  -- the place of a name is that of its variable
  pub place_right : (x : List ℕ) (t : Ty) → IsElementary (variable_named (in_lower_case x) vs) t → IsPlaceOf (plan_of unit p).plan x (referent world (variable_named (in_lower_case x) vs)) ((numbering unit p).place x)
  place_right x t h =
      subst (λ o. IsPlaceOf (plan_of unit p).plan x (referent world (variable_named (in_lower_case x) vs)) (place_found unit vs (in_lower_case x) o)) (sym h.found)
      (subst (λ r. IsPlaceOf (plan_of unit p).plan x r (place_by unit vs (in_lower_case x) h.variable.class)) (sym (means world (variable_named (in_lower_case x) vs) t h)) (by_class h.variable.class refl))
    where
      by_class : (class : Class) → h.variable.class ≡ class → IsPlaceOf (plan_of unit p).plan x (elementary class t) (place_by unit vs (in_lower_case x) class)
      by_class Local e = own_leaf x h.variable t h.found h.typed (ap is_kept e)
      by_class Input e = own_leaf x h.variable t h.found h.typed (ap is_kept e)
      by_class Output e = own_leaf x h.variable t h.found h.typed (ap is_kept e)
      by_class InOut e = name_at (λ v. is_in_out (Some v)) (in_lower_case x) vs h.variable h.found (in_out_class h.variable e)
      by_class Temp e = name_at is_temporary (in_lower_case x) vs h.variable h.found (temporary_class h.variable e)

  -- and has its type
  module _ (wires spare : List Value) (are : wires ≡ temporary_values vs ++ spare) where
    pub place_typed : (x : List ℕ) (t : Ty) → IsElementary (variable_named (in_lower_case x) vs) t → IsOf (types_of unit p) wires (place_source ((numbering unit p).place x)) t
    place_typed x t h = subst (λ o. IsOf (types_of unit p) wires (place_source (place_found unit vs (in_lower_case x) o)) t) (sym h.found) (by_class h.variable.class refl)
      where
        by_class : (class : Class) → h.variable.class ≡ class → IsOf (types_of unit p) wires (place_source (place_by unit vs (in_lower_case x) class)) t
        by_class Local e = leaf_typed x h.variable t h.found h.typed (ap is_kept e)
        by_class Input e = leaf_typed x h.variable t h.found h.typed (ap is_kept e)
        by_class Output e = leaf_typed x h.variable t h.found h.typed (ap is_kept e)
        by_class InOut e =
            mapped_at in_out_type (filter (λ v. is_in_out (Some v)) vs) (number_of bytes_eq (in_out_names vs) (in_lower_case x)) h.variable
            (passing_at (λ v. is_in_out (Some v)) (in_lower_case x) vs h.variable h.found (in_out_class h.variable e))
            ∙ ap (λ o. Some (unwrap_or o ty.Bool)) h.typed
        by_class Temp e =
            let w = number_of bytes_eq (temporary_names vs) (in_lower_case x) in
            record {
              value = first_value h.variable;
              is = ap (λ ws. slice_get ws w) are ∙ at_front (temporary_values vs) spare w (first_value h.variable)
                  (mapped_at first_value (filter is_temporary vs) w h.variable (passing_at is_temporary (in_lower_case x) vs h.variable h.found (temporary_class h.variable e)));
              typed = ap (λ o. unwrap_or o ty.Bool) h.typed;
            }

    -- the first wires are the temporaries as they begin
    pub first_frame : SameFrame (plan_of unit p).plan.temporaries (fresh vs) wires
    first_frame = record { long = long; each = each }
      where
        long : length (temporary_names vs) ≤ length wires
        long =
            let names = length-map (filter is_temporary vs) name_of in
            let values = length-map (filter is_temporary vs) first_value in
            let all = ap length are in
            let both = length-append (temporary_values vs) spare in
            omega arith

        each : (i : ℕ) (key : List ℕ) → slice_get (temporary_names vs) i ≡ Some (plain_name key) → fresh vs key ≡ number_at wires i
        each i key h =
            let v = passing_found is_temporary vs one.distinct i key h in
            let at : slice_get wires i ≡ Some (first_value v.0) = ap (λ ws. slice_get ws i) are ∙ at_front (temporary_values vs) spare i (first_value v.0) (mapped_at first_value (filter is_temporary vs) i v.0 v.1) in
            ap initial_of v.2 ∙ sym (ap (λ (u : Value). u.n) (value_there wires i (first_value v.0) at))
          where
            value_there : (xs : List Value) (j : ℕ) (u : Value) → slice_get xs j ≡ Some u → slice_index_or xs j no_value ≡ u
            value_there [] j u e = absurd (cc)
            value_there (y ∷ ys) zero u e = same_Some y u e
            value_there (y ∷ ys) (suc j) u e = value_there ys j u e

  pub temporaries_apart : AreApart (plan_of unit p).plan.temporaries
  temporaries_apart = passing_apart is_temporary vs one.distinct

  -- ---- what lies within instances
  module _ (i x : List ℕ) (t : Ty) where
    abbrev inside : Option Variable
    inside = variable_named (in_lower_case x) (parts_of world (variable_named (in_lower_case i) vs))

    inner_at : (h : IsElementary inside t) → is_kept h.variable.class ≡ true → slice_get (places_of unit vs) ((numbering unit p).inner i x) ≡ Some (in_lower_case x ∷ in_lower_case i ∷ [], t)
    inner_at h kept =
        let v = inner_of world (variable_named (in_lower_case i) vs) (in_lower_case x) h.variable h.found in
        inner_place unit p one i x v.variable v.found v.composite h.variable t h.found h.typed kept

    pub inner_right : (h : IsElementary inside t) → is_kept h.variable.class ≡ true → slice_get (plan_of unit p).plan.paths ((numbering unit p).inner i x) ≡ Some (in_lower_case x ∷ in_lower_case i ∷ [])
    inner_right h kept = mapped_at (λ (y : Lying). y.0) (places_of unit vs) ((numbering unit p).inner i x) (in_lower_case x ∷ in_lower_case i ∷ [], t) (inner_at h kept)

    pub inner_typed : (h : IsElementary inside t) → is_kept h.variable.class ≡ true → slice_get (types_of unit p).leaves ((numbering unit p).inner i x) ≡ Some t
    inner_typed h kept = mapped_at (λ (y : Lying). y.1) (places_of unit vs) ((numbering unit p).inner i x) (in_lower_case x ∷ in_lower_case i ∷ [], t) (inner_at h kept)
