-- The numbers of variables and of what lies within instances are right.
use Rattle.std.proofs.Common.{◌≡◌, ◌≢◌, ℕ, suc, ◌+◌, Bool, true, false, List, [], ◌∷◌, ◌++◌, map, filter, Option, Some, None, refl, sym, ap, ◌∙◌, subst, arith, inl, inr}
use Rattle.std.specs.Prelude.{slice_get, option_map, if◌then◌else◌}
use Rattle.std.specs.List.{Contains}
use Rattle.std.specs.Str.{bytes_eq}
use Rattle.std.proofs.lemmas.Option.{slice_get-map}
use Rattle.std.proofs.lemmas.Slice.Eq.{bytes_eq-Decides}
use Rattle.plcx_types.specs.declared.ty.Ty.{Ty}
use Rattle.plcx_types.specs.Name.{in_lower_case}
use Rattle.plcx_types.specs.TypeName.{type_named}
use Rattle.plcx_std.specs.declared.kind.StdKind.{StdKind}
use Rattle.plcx_std.specs.declared.kind.StdKind.TheVariants as kind
use Rattle.plcx_std.specs.Kind.{kind_named}
use Rattle.plcx_std.specs.Pins.{Pin, pins}
use Rattle.plcx_meaning.specs.Base.{Path}
use Rattle.plcx_meaning.specs.Standard.{pin_blocks}
use Rattle.plcx_meaning.specs.Tree as tree
use Rattle.plcx_meaning.specs.Tree.{Class, Local, Input, Output, InOut, Temp}
use Rattle.plcx_meaning.specs.Layout.{Variable, variables_of, variable_named, World, composed, parts_of, parts, is_kept}
use Rattle.plcx_meaning.specs.Diagram.{Pou, Project, DiagramElement, block_named}
use Rattle.plcx_meaning.specs.Evaluate.{is_in_out, world_of}
use Rattle.plcx_meaning.specs.Fits.{IsVariable, VariableFits, PouFits, PouNests}
use Rattle.plcx_meaning.proofs.Lists.{each_at, each_from, contains_cases, contains_none, contains_first, contains_later}
use Rattle.plcx_meaning.proofs.Lookups.{found_name}
use Rattle.plcx_meaning.proofs.Units.{variable_there}
use Rattle.plcx_steps.specs.declared.program.Operand.TheVariants as operand
use Rattle.plcx_numbered.specs.Right.{IsOperand, NamesOperand}
use Rattle.plcx_numbered.specs.Numbers.{Place, behind, variable_places, places, first_leaf, number_of, in_out_names, places_of, inner_depth, depth, leaf_count, place_of}
use Rattle.plcx_numbered.proofs.Numbers.{number_there}
use Rattle.plcx_numbered.proofs.Leaves.{composed_user, composed_standard, AreDistinct, meant_by, places_steady, pins_steady, from_first}
use Rattle.plcx_numbered.proofs.Nested.{is_user, nests_below}

-- ---- the leaves of one variable
elementary_places : (f : List Variable → List Place) (world : World) (v : Variable) (t : Ty) → is_kept v.class ≡ true → type_named v.ty ≡ Some t → variable_places f world v ≡ (in_lower_case v.name ∷ [], t) ∷ []
elementary_places f world v t kept typed = rw (kept, typed)

pub composed_places : (f : List Variable → List Place) (world : World) (v : Variable) → is_kept v.class ≡ true → type_named v.ty ≡ None → variable_places f world v ≡ behind (in_lower_case v.name) (f (composed world v.ty))
composed_places f world v kept typed = rw (kept, typed)

-- what is neither an in-out nor a temporary is kept
pub kept_class : (k : Class) → (k ≢ Temp) → (k ≢ InOut) → is_kept k ≡ true
kept_class Local a b = refl
kept_class Input a b = refl
kept_class Output a b = refl
kept_class InOut a b = absurd (b refl)
kept_class Temp a b = absurd (a refl)

-- the leaves of a standard block
pub pins_places : (n : ℕ) (world : World) (k : StdKind) → places (suc n) world (variables_of (pin_blocks k)) ≡ map (λ (p : Pin). (in_lower_case p.name ∷ [], p.ty)) (pins k)
pins_places n world kind.Ton = refl
pins_places n world kind.Tof = refl
pins_places n world kind.Tp = refl
pins_places n world kind.Ctu = refl
pins_places n world kind.Ctd = refl
pins_places n world kind.Ctud = refl
pins_places n world kind.Sr = refl
pins_places n world kind.Rs = refl
pins_places n world kind.RTrig = refl
pins_places n world kind.FTrig = refl

module _ (project : Project) (distinct : AreDistinct project) (p : Pou) (fits : PouFits project p) (nests : PouNests 16 project p) where
  abbrev vs : List Variable
  vs = variables_of p.lists

  abbrev world : World
  world = world_of project

  abbrev leaves_of : Variable → List Place
  leaves_of v = variable_places (places inner_depth world) world v

  abbrev first : List ℕ → List Variable → ℕ
  first key ws = first_leaf (leaf_count project) key ws

  found_own : (key : List ℕ) (v : Variable) → variable_named key vs ≡ Some v → VariableFits project v
  found_own key v h = each_at (VariableFits project) vs v fits.variables (variable_there key vs v h)

  -- a variable of an elementary type has one leaf
  pub own_place : (x : List ℕ) (v : Variable) (t : Ty) → variable_named (in_lower_case x) vs ≡ Some v → type_named v.ty ≡ Some t → is_kept v.class ≡ true → slice_get (places_of project vs) (first (in_lower_case x) vs) ≡ Some (in_lower_case x ∷ [], t)
  own_place x v t found typed kept =
      ap (slice_get (places_of project vs)) (let z : first (in_lower_case x) vs ≡ first (in_lower_case x) vs + 0 = omega arith in z)
      ∙ from_first leaves_of (in_lower_case x) vs v found 0 (in_lower_case x ∷ [], t)
      (ap (λ l. slice_get l 0) (elementary_places (places inner_depth world) world v t kept typed) ∙ ap (λ n. Some (n ∷ [], t)) (found_name (in_lower_case x) vs v found))

  -- what lies within an instance, so deep
  pub within_steady : (v : Variable) → variable_named (in_lower_case v.name) vs ≡ Some v → type_named v.ty ≡ None → places inner_depth world (composed world v.ty) ≡ places depth world (composed world v.ty)
  within_steady v found composite = by_kind (kind_named v.ty) refl (block_named v.ty project) refl
    where
      by_kind : (k : Option StdKind) → kind_named v.ty ≡ k → (b : Option Pou) → block_named v.ty project ≡ b → places inner_depth world (composed world v.ty) ≡ places depth world (composed world v.ty)
      by_kind (Some k) e b g =
          let c = composed_standard world v.ty k e in
          ap (places inner_depth world) c ∙ pins_steady 16 17 world k ∙ sym (ap (places depth world) c)
      by_kind None e (Some q) g =
          let c = composed_user project v.ty e ∙ ap (λ o. variables_of (elim o [ Some r ↦ r.lists | None ↦ [] ])) g in
          let below = nests_below project 15 p nests v found q (is_user project v q (record { composite = composite; user = e; block = g })) in
          ap (places inner_depth world) c ∙ places_steady project distinct 15 q (distinct v.ty q g) below 16 17 (omega arith) (omega arith) ∙ sym (ap (places depth world) c)
      by_kind None e None g =
          let c = composed_user project v.ty e ∙ ap (λ o. variables_of (elim o [ Some r ↦ r.lists | None ↦ [] ])) g in
          ap (places inner_depth world) c ∙ sym (ap (places depth world) c)

  -- an instance is found by its own name
  pub found_again : (i : List ℕ) (v : Variable) → variable_named (in_lower_case i) vs ≡ Some v → variable_named (in_lower_case v.name) vs ≡ Some v
  found_again i v h = ap (λ k. variable_named k vs) (found_name (in_lower_case i) vs v h) ∙ h

  -- what lies within it stands from its first leaf on
  pub within_place : (i : List ℕ) (v : Variable) → variable_named (in_lower_case i) vs ≡ Some v → type_named v.ty ≡ None → (j : ℕ) (x : Path) (t : Ty) → slice_get (places depth world (composed world v.ty)) j ≡ Some (x, t)
      → slice_get (places_of project vs) (first (in_lower_case i) vs + j) ≡ Some (x ++ in_lower_case i ∷ [], t)
  within_place i v found composite j x t there =
      let kept : is_kept v.class ≡ true = ap is_kept ((found_own (in_lower_case i) v found).instance composite).0 in
      from_first leaves_of (in_lower_case i) vs v found j (x ++ in_lower_case i ∷ [], t)
      (ap (λ l. slice_get l j) (composed_places (places inner_depth world) world v kept composite)
      ∙ slice_get-map (λ (y : Place). (y.0 ++ in_lower_case v.name ∷ [], y.1)) (places inner_depth world (composed world v.ty)) j
      ∙ ap (option_map (λ (y : Place). (y.0 ++ in_lower_case v.name ∷ [], y.1))) (ap (λ l. slice_get l j) (within_steady v (found_again i v found) composite) ∙ there)
      ∙ ap (λ n. Some (x ++ n ∷ [], t)) (found_name (in_lower_case i) vs v found))

  -- a variable of what lies within
  part_place : (within : List Variable) (x : List ℕ) (w : Variable) (t : Ty) → variable_named (in_lower_case x) within ≡ Some w → type_named w.ty ≡ Some t → is_kept w.class ≡ true
      → slice_get (places depth world within) (first (in_lower_case x) within) ≡ Some (in_lower_case x ∷ [], t)
  part_place within x w t found typed kept =
      ap (slice_get (places depth world within)) (let z : first (in_lower_case x) within ≡ first (in_lower_case x) within + 0 = omega arith in z)
      ∙ from_first leaves_of (in_lower_case x) within w found 0 (in_lower_case x ∷ [], t)
      (ap (λ l. slice_get l 0) (elementary_places (places inner_depth world) world w t kept typed) ∙ ap (λ n. Some (n ∷ [], t)) (found_name (in_lower_case x) within w found))

  pub inner_place : (i x : List ℕ) (v : Variable) → variable_named (in_lower_case i) vs ≡ Some v → type_named v.ty ≡ None → (within : List Variable) → within ≡ composed world v.ty → (w : Variable) (t : Ty) → variable_named (in_lower_case x) within ≡ Some w
      → type_named w.ty ≡ Some t → is_kept w.class ≡ true
      → slice_get (places_of project vs) (first (in_lower_case i) vs + first (in_lower_case x) (parts_of world (variable_named (in_lower_case i) vs))) ≡ Some (in_lower_case x ∷ in_lower_case i ∷ [], t)
  inner_place i x v found composite within inside w t part typed kept =
      let are : parts_of world (variable_named (in_lower_case i) vs) ≡ within = ap (parts_of world) found ∙ parts_are v composite ∙ sym inside in
      ap (λ ws. slice_get (places_of project vs) (first (in_lower_case i) vs + first (in_lower_case x) ws)) are
      ∙ within_place i v found composite (first (in_lower_case x) within) (in_lower_case x ∷ []) t (ap (λ ws. slice_get (places depth world ws) (first (in_lower_case x) within)) (sym inside) ∙ part_place within x w t part typed kept)
    where
      parts_are : (u : Variable) → type_named u.ty ≡ None → parts_of world (Some u) ≡ composed world u.ty
      parts_are u e = ap (λ o. parts (meant_by world u.ty o)) e

  -- ---- names
  in_out_there : (ws : List Variable) (v : Variable) → Contains ws v → is_in_out (Some v) ≡ true → Contains (in_out_names ws) (in_lower_case v.name)
  in_out_there [] v h is = absurd (contains_none v h)
  in_out_there (w ∷ ws) v h is = by_test (is_in_out (Some w)) refl (λ l. in_out_there ws v l is)
    where
      by_test : (b : Bool) → is_in_out (Some w) ≡ b → (Contains ws v → Contains (in_out_names ws) (in_lower_case v.name)) → Contains (map (λ (u : Variable). in_lower_case u.name) (if b then w ∷ filter (λ u. is_in_out (Some u)) ws else filter (λ u. is_in_out (Some u)) ws)) (in_lower_case v.name)
      by_test true e rest =
          elim (contains_cases w ws v h) [
            | inl s ↦ subst (λ (u : Variable). Contains (in_lower_case w.name ∷ in_out_names ws) (in_lower_case u.name)) s (contains_first (in_lower_case w.name) (in_out_names ws))
            | inr l ↦ contains_later (in_lower_case w.name) (in_out_names ws) (in_lower_case v.name) (rest l)
          ]
      by_test false e rest =
          elim (contains_cases w ws v h) [
            | inl s ↦ (let k : false ≡ true = sym e ∙ ap (λ u. is_in_out (Some u)) s ∙ is in absurd (cc))
            | inr l ↦ rest l
          ]

  class_of_in_out : (v : Variable) → is_in_out (Some v) ≡ false → v.class ≢ InOut
  class_of_in_out v h e = let k : is_in_out (Some v) ≡ true = by v.class e in let f : true ≡ false = sym k ∙ h in absurd (cc)
    where
      by : (k : Class) → k ≡ InOut → elim k as (λ (c : Class). Bool) [ tree.InOut ↦ true | _ ↦ false ] ≡ true
      by Local e = absurd (cc)
      by Input e = absurd (cc)
      by Output e = absurd (cc)
      by InOut e = refl
      by Temp e = absurd (cc)

  pub operand_right : (es : List DiagramElement) (width : ℕ) (x : List ℕ) (t : Ty) → IsVariable vs x t → IsOperand (place_of project p es width) x
  operand_right es width x t h = by_test (is_in_out (variable_named (in_lower_case x) vs)) refl
    where
      by_test : (b : Bool) → is_in_out (variable_named (in_lower_case x) vs) ≡ b
          → NamesOperand (place_of project p es width) x (if b then operand.InOut (number_of bytes_eq (in_out_names vs) (in_lower_case x)) else operand.Leaf (first (in_lower_case x) vs))
      by_test true e =
          let v = h.variable in
          let is : is_in_out (Some v) ≡ true = ap is_in_out (sym h.found) ∙ e in
          let there = subst (Contains (in_out_names vs)) (found_name (in_lower_case x) vs v h.found) (in_out_there vs v (variable_there (in_lower_case x) vs v h.found) is) in
          (e, number_there (λ (n : List ℕ). n) bytes_eq bytes_eq-Decides (in_out_names vs) (each_from _ (in_out_names vs) (λ y k. refl)) (in_lower_case x) there refl)
      by_test false e =
          let v = h.variable in
          let is : is_in_out (Some v) ≡ false = ap is_in_out (sym h.found) ∙ e in
          (e, slice_get-map (λ (y : Place). y.0) (places_of project vs) (first (in_lower_case x) vs) ∙ ap (option_map (λ (y : Place). y.0)) (own_place x v t h.found h.typed (kept_class v.class h.class (class_of_in_out v is))))
