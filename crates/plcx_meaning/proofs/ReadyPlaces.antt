-- What the law on bodies asks of names tells the types of what stands for them in the text.
use Rattle.std.proofs.Common.{◌≡◌, ◌≢◌, ℕ, ℤ, pos, Bool, true, false, not, List, Option, Some, None, refl, sym, ap, ◌∙◌, subst}
use Rattle.std.specs.List.{Contains}
use Rattle.std.proofs.lemmas.Bool.{both_ways}
use Rattle.plcx_types.specs.declared.ty.Ty.{Ty}
use Rattle.plcx_types.specs.Name.{in_lower_case}
use Rattle.plcx_types.specs.Reserved.{is_own}
use Rattle.plcx_types.specs.TypeName.{type_named}
use Rattle.plcx_types.specs.Value.{Value}
use Rattle.plcx_types.proofs.TypeTable.{same_is}
use Rattle.plcx_funcs.specs.Applied.{value}
use Rattle.plcx_types.specs.Lists.{Each}
use Rattle.plcx_meaning.specs.Base.{Path, Site, top}
use Rattle.plcx_meaning.specs.Tree.{Class, Local, Input, Output, InOut, Temp, Mark, Plain, Constant, Retain, Name}
use Rattle.plcx_meaning.specs.Layout.{Variable, variables_of, variable_named, World, Meaning, Elementary, Composed, composed, meaning, Scope, is_constant}
use Rattle.plcx_meaning.specs.Functions.{Answer, Given, Faulty, Missing}
use Rattle.plcx_meaning.specs.Diagram.{Operand, Own, Pou, Project}
use Rattle.plcx_meaning.specs.Diagram as diagram
use Rattle.plcx_meaning.specs.Execute.{Referent, Temporary, Kept, Bound, Instance, Unknown, referent_by, referent, Frame, read, read_member, read_output, has_leaf, scope_of}
use Rattle.plcx_meaning.specs.Templates.{operand_text, pou_text, unit_of}
use Rattle.plcx_meaning.specs.Typed.{variable_in, part_in, referent_type, read_type, member_type, can_store, can_bind}
use Rattle.plcx_meaning.specs.Ready.{ExpressionIsReady, TargetIsReady}
use Rattle.plcx_meaning.specs.Fits.{PouFits, ProjectFits, CanBeWritten}
use Rattle.plcx_meaning.specs.Fits as promise
use Rattle.plcx_meaning.proofs.Lists.{each_at, each_append, each_weaker}
use Rattle.plcx_meaning.proofs.Lookups.{own_variables, text_variables, named_first, found_name, IsDeclaredVariable}
use Rattle.plcx_meaning.proofs.LookupsOwn.{variables_declared}
use Rattle.plcx_meaning.proofs.StaticsWorlds.{own_each}
use Rattle.plcx_meaning.proofs.Statics.{here}
use Rattle.plcx_meaning.proofs.Asked.{OperandAsked}
use Rattle.plcx_meaning.proofs.StuckBodies.{elementary_type, found_has}

type_given : (u t : Ty) (n m : ℤ) → Given (value u n) ≡ Given (value t m) → u ≡ t
type_given u t n m e = ap (λ (a : Answer Value). elim a [ Given v ↦ v.ty | Faulty fault ↦ u | Missing ↦ u ]) e

pub leaf_type : (q : Referent) (t : Ty) → has_leaf q t ≡ true → referent_type q ≡ Some t
leaf_type (Kept u) t h = ap Some (same_is u t h)
leaf_type (Bound u) t h = ap Some (same_is u t h)
leaf_type (Temporary u) t h = absurd (cc)
leaf_type (Instance type) t h = absurd (cc)
leaf_type Unknown t h = absurd (cc)

given_type : (q : Referent) (x : List ℕ) (site : Site) (s : Path → ℤ) (f : Frame) (t : Ty) (n : ℤ) → read q x site s f ≡ Given (value t n) → referent_type q ≡ Some t
given_type (Kept u) x site s f t n h = ap Some (type_given u t _ n h)
given_type (Bound u) x site s f t n h = ap Some (type_given u t _ n h)
given_type (Temporary u) x site s f t n h = ap Some (type_given u t _ n h)
given_type (Instance type) x site s f t n h = absurd (cc)
given_type Unknown x site s f t n h = absurd (cc)

within_type : (m : Meaning) (class : Class) (p : Path) (s : Path → ℤ) (t : Ty) (n : ℤ) → read_member m class p s ≡ Given (value t n) → read_type m class ≡ Some t
within_type (Elementary u) Output p s t n h = ap Some (type_given u t _ n h)
within_type (Elementary u) Local p s t n h = absurd (cc)
within_type (Elementary u) Input p s t n h = absurd (cc)
within_type (Elementary u) InOut p s t n h = absurd (cc)
within_type (Elementary u) Temp p s t n h = absurd (cc)
within_type (Composed vs) class p s t n h = absurd (cc)

pub output_type : (world : World) (o : Option Variable) (p : Path) (s : Path → ℤ) (t : Ty) (n : ℤ) → read_output world o p s ≡ Given (value t n) → member_type world o ≡ Some t
output_type world None p s t n h = absurd (cc)
output_type world (Some v) p s t n h = within_type (meaning world v.ty) v.class p s t n h

-- the variable of a name that has a type
elementary_named : (world : World) (v : Variable) (t : Ty) → referent_type (referent world (Some v)) ≡ Some t → type_named v.ty ≡ Some t
elementary_named world v t h = by_type (type_named v.ty) refl h
  where
    by_type : (o : Option Ty) → type_named v.ty ≡ o → referent_type (referent_by (elim o [ Some u ↦ Elementary u | None ↦ Composed (composed world v.ty) ]) v.class v.ty) ≡ Some t → type_named v.ty ≡ Some t
    by_type (Some u) e k = e ∙ sym (elementary_type v.class u) ∙ k
    by_type None e k = absurd (cc)

-- what can be stored to, and what an in-out may stand for
no_constant : (mark : Mark) → mark ≢ Constant → is_constant mark ≡ false
no_constant Plain h = refl
no_constant Constant h = absurd (h refl)
no_constant Retain h = refl

store_by : (class : Class) (b : Bool) → class ≢ Input → b ≡ false → (elim class [ Input ↦ false | Local ↦ not b | Output ↦ not b | InOut ↦ not b | Temp ↦ not b ]) ≡ true
store_by Input b h e = absurd (h refl)
store_by Local b h e = ap not e
store_by Output b h e = ap not e
store_by InOut b h e = ap not e
store_by Temp b h e = ap not e

bind_by : (class : Class) (b : Bool) → class ≢ Input → class ≢ Temp → b ≡ false → (elim class [ Input ↦ false | Temp ↦ false | Local ↦ not b | Output ↦ not b | InOut ↦ not b ]) ≡ true
bind_by Input b h k e = absurd (h refl)
bind_by Temp b h k e = absurd (k refl)
bind_by Local b h k e = ap not e
bind_by Output b h k e = ap not e
bind_by InOut b h k e = ap not e

pub name_has : (c : Scope) (x : List ℕ) (t : Ty) → referent_type (referent c.world (variable_in c x)) ≡ Some t → ExpressionIsReady c (Name x) t
name_has c x t h = record { typed = h; range = tt }

module _ (project : Project) (p : Pou) (fits : ProjectFits project) (there : Contains project p) where
  -- where the statements of the POU stand
  abbrev pub scope : Scope
  scope = scope_of (unit_of project) (pou_text p)

  own_fits : PouFits project p
  own_fits = each_at (PouFits project) project p fits.pous there

  -- a variable of the diagram as a target
  named_variable : (x : List ℕ) (t : Ty) (test : Variable → Bool) (v : Variable) → variable_named (in_lower_case x) (variables_of p.lists) ≡ Some v → referent_type (referent scope.world (variable_in scope x)) ≡ Some t → test v ≡ true → TargetIsReady scope x t test
  named_variable x t test v found typed passes =
      let is : variable_in scope x ≡ Some v = ap (variable_named (in_lower_case x)) (text_variables p) ∙ named_first (in_lower_case x) (variables_of p.lists) (own_variables p) v found in
      record { variable = v; found = is; typed = elementary_named scope.world v t (ap (λ o. referent_type (referent scope.world o)) (sym is) ∙ typed); passes = passes }

  pub target_ready : (x : List ℕ) (t u : Ty) → promise.IsVariable (variables_of p.lists) x u → CanBeWritten (variables_of p.lists) x → referent_type (referent scope.world (variable_in scope x)) ≡ Some t → TargetIsReady scope x t can_store
  target_ready x t u is written typed =
      let w = written is.variable is.found in
      named_variable x t can_store is.variable is.found typed (store_by is.variable.class (is_constant is.variable.mark) w.0 (no_constant is.variable.mark w.1))

  pub binding_ready : (x : List ℕ) (t u : Ty) → promise.IsVariable (variables_of p.lists) x u → CanBeWritten (variables_of p.lists) x → referent_type (referent scope.world (variable_in scope x)) ≡ Some t → TargetIsReady scope x t can_bind
  binding_ready x t u is written typed =
      let w = written is.variable is.found in
      named_variable x t can_bind is.variable is.found typed (bind_by is.variable.class (is_constant is.variable.mark) w.0 is.class (no_constant is.variable.mark w.1))

  -- each of the compiler's own variables can be stored to
  own_stored : Each (λ (v : Variable). is_own (in_lower_case v.name) ≡ true → can_store v ≡ true) (variables_of (pou_text p).blocks)
  own_stored =
      subst (Each (λ (v : Variable). is_own (in_lower_case v.name) ≡ true → can_store v ≡ true)) (sym (text_variables p))
      (each_append _ (variables_of p.lists) (own_variables p)
      (each_weaker IsDeclaredVariable _ (variables_of p.lists) (λ v declared own. absurd (both_ways (is_own (in_lower_case v.name)) declared own)) (variables_declared project p own_fits))
      (own_each (λ (v : Variable). is_own (in_lower_case v.name) ≡ true → can_store v ≡ true) (λ k t own. refl) (λ id pin t own. refl) (λ own. refl) p))

  pub own_ready : (x : List ℕ) (t : Ty) → is_own (in_lower_case x) ≡ true → referent_type (referent scope.world (variable_in scope x)) ≡ Some t → TargetIsReady scope x t can_store
  own_ready x t own typed = by_variable (variable_in scope x) refl typed
    where
      by_variable : (o : Option Variable) → variable_in scope x ≡ o → referent_type (referent scope.world o) ≡ Some t → TargetIsReady scope x t can_store
      by_variable None e h = absurd (cc)
      by_variable (Some v) e h =
          let stored = found_has (λ (w : Variable). is_own (in_lower_case w.name) ≡ true → can_store w ≡ true) (in_lower_case x) (variables_of (pou_text p).blocks) v own_stored e in
          record { variable = v; found = e; typed = elementary_named scope.world v t h; passes = stored (ap is_own (found_name (in_lower_case x) (variables_of (pou_text p).blocks) v e) ∙ own) }

  -- what an inVariable or a contact reads
  pub operand_has : (vs : List Variable) (operand : Operand) (t : Ty) → OperandAsked (here project p top) vs operand t → ExpressionIsReady scope (operand_text operand) t
  operand_has vs (Own x) t h = name_has scope x t (given_type _ x top (λ q. pos 0) (λ key. pos 0) t _ (h.reads (λ q. pos 0) (λ key. pos 0)))
  operand_has vs (diagram.Output i x) t h = record { typed = output_type scope.world (part_in scope i x) _ (λ q. pos 0) t _ (h.reads (λ q. pos 0) (λ key. pos 0)); range = tt }
