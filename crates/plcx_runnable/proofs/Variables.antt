-- Variables, and what lies within instances, stand at their numbers with their types.
use Rattle.std.proofs.Common.{◌≡◌, ◌≢◌, ℕ, suc, ◌+◌, Bool, true, false, List, [], ◌∷◌, map, filter, Some, refl, sym, ap, ◌∙◌, arith}
use Rattle.std.specs.Prelude.{slice_get, unwrap_or, if◌then◌else◌}
use Rattle.std.specs.Str.{bytes_eq}
use Rattle.std.proofs.lemmas.Bool.{true≢false}
use Rattle.plcx_types.specs.declared.ty.Ty.{Ty}
use Rattle.plcx_types.specs.declared.ty.Ty.TheVariants as ty
use Rattle.plcx_types.specs.Name.{in_lower_case}
use Rattle.plcx_meaning.specs.Tree as tree
use Rattle.plcx_meaning.specs.Tree.{Class, Local, Input, Output, InOut, Temp}
use Rattle.plcx_meaning.specs.Layout.{Variable, variables_of, variable_named, is_kept}
use Rattle.plcx_meaning.specs.Diagram.{Pou, Project, DiagramElement}
use Rattle.plcx_meaning.specs.Evaluate.{is_in_out, world_of}
use Rattle.plcx_meaning.specs.Fits.{IsDeclaredAs, IsVariable, IsInstance, PouFits, PouNests, ProjectFits}
use Rattle.plcx_steps.specs.declared.program.Operand.TheVariants as operand
use Rattle.plcx_steps.specs.Typed.{IsPlacedOf}
use Rattle.plcx_numbered.specs.Numbers.{Place, places_of, number_of, in_out_names, first_leaf, leaf_count, numbering}
use Rattle.plcx_numbered.proofs.Variables.{kept_class, own_place, inner_place}
use Rattle.plcx_numbered.proofs.Sources.{distinct_of}
use Rattle.plcx_runnable.specs.Shapes.{in_out_type, types_of}
use Rattle.plcx_runnable.proofs.Lists.{mapped_at}

-- the in-outs among variables
abbrev pub in_outs_of : List Variable → List Variable
in_outs_of vs = filter (λ v. is_in_out (Some v)) vs

-- the in-out of a name stands at its number
in_out_at : (key : List ℕ) (vs : List Variable) (v : Variable) → variable_named key vs ≡ Some v → is_in_out (Some v) ≡ true → slice_get (in_outs_of vs) (number_of bytes_eq (in_out_names vs) key) ≡ Some v
in_out_at key [] v h is = absurd (cc)
in_out_at key (w ∷ vs) v h is = by_class (is_in_out (Some w)) refl (λ found. in_out_at key vs v found is)
  where
    Rest : Type 0
    Rest = variable_named key vs ≡ Some v → slice_get (in_outs_of vs) (number_of bytes_eq (in_out_names vs) key) ≡ Some v

    here : (b : Bool) → (if b then Some w else variable_named key vs) ≡ Some v → Rest → slice_get (w ∷ in_outs_of vs) (if b then 0 else number_of bytes_eq (in_out_names vs) key + 1) ≡ Some v
    here true e rest = e
    here false e rest = ap (slice_get (w ∷ in_outs_of vs)) (let z : number_of bytes_eq (in_out_names vs) key + 1 ≡ suc (number_of bytes_eq (in_out_names vs) key) = omega arith in z) ∙ rest e

    other : (b : Bool) → is_in_out (Some w) ≡ false → (if b then Some w else variable_named key vs) ≡ Some v → Rest → slice_get (in_outs_of vs) (number_of bytes_eq (in_out_names vs) key) ≡ Some v
    other true plain e rest = absurd (true≢false (sym is ∙ ap is_in_out (sym e) ∙ plain))
    other false plain e rest = rest e

    by_class : (a : Bool) → is_in_out (Some w) ≡ a → Rest
        → slice_get (if a then w ∷ in_outs_of vs else in_outs_of vs) (number_of bytes_eq (map (λ (u : Variable). in_lower_case u.name) (if a then w ∷ in_outs_of vs else in_outs_of vs)) key) ≡ Some v
    by_class true e rest = here (bytes_eq (in_lower_case w.name) key) h rest
    by_class false e rest = other (bytes_eq (in_lower_case w.name) key) e h rest

class_of_in_out : (v : Variable) → is_in_out (Some v) ≡ false → v.class ≢ InOut
class_of_in_out v h e = true≢false (sym (by v.class e) ∙ h)
  where
    by : (k : Class) → k ≡ InOut → elim k as (λ (c : Class). Bool) [ tree.InOut ↦ true | _ ↦ false ] ≡ true
    by Local e = absurd (cc)
    by Input e = absurd (cc)
    by Output e = absurd (cc)
    by InOut e = refl
    by Temp e = absurd (cc)

module _ (project : Project) (fits : ProjectFits project) (p : Pou) (one : PouFits project p) (nests : PouNests 16 project p) (es : List DiagramElement) where
  -- a variable of the POU
  pub operand_typed : (x : List ℕ) (t : Ty) → IsVariable (variables_of p.lists) x t → IsPlacedOf (types_of project p) ((numbering project p es).operand x) t
  operand_typed x t h = by_test (is_in_out (variable_named (in_lower_case x) (variables_of p.lists))) refl
    where
      by_test : (b : Bool) → is_in_out (variable_named (in_lower_case x) (variables_of p.lists)) ≡ b
          → IsPlacedOf (types_of project p) (if b then operand.InOut (number_of bytes_eq (in_out_names (variables_of p.lists)) (in_lower_case x)) else operand.Leaf (first_leaf (leaf_count project) (in_lower_case x) (variables_of p.lists))) t
      by_test true e =
          mapped_at in_out_type (in_outs_of (variables_of p.lists)) (number_of bytes_eq (in_out_names (variables_of p.lists)) (in_lower_case x)) h.variable
          (in_out_at (in_lower_case x) (variables_of p.lists) h.variable h.found (ap is_in_out (sym h.found) ∙ e))
          ∙ ap (λ o. Some (unwrap_or o ty.Bool)) h.typed
      by_test false e =
          mapped_at (λ (y : Place). y.1) (places_of project (variables_of p.lists)) (first_leaf (leaf_count project) (in_lower_case x) (variables_of p.lists)) (in_lower_case x ∷ [], t)
          (own_place project (distinct_of project fits) p one nests x h.variable t h.found h.typed (kept_class h.variable.class h.class (class_of_in_out h.variable (ap is_in_out (sym h.found) ∙ e))))

  -- and one within an instance
  pub inner_typed : (i x : List ℕ) (within : List Variable) (t : Ty) → IsInstance (world_of project) (variables_of p.lists) i within → IsDeclaredAs within x t (λ class. is_kept class ≡ true)
      → slice_get (types_of project p).leaves ((numbering project p es).inner i x) ≡ Some t
  inner_typed i x within t inst h =
      mapped_at (λ (y : Place). y.1) (places_of project (variables_of p.lists)) ((numbering project p es).inner i x) (in_lower_case x ∷ in_lower_case i ∷ [], t)
      (inner_place project (distinct_of project fits) p one nests i x inst.variable inst.found inst.composite within inst.parts h.variable t h.found h.typed h.class)
