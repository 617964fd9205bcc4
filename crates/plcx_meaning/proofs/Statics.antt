-- The text of a project that fits has each name where the law on bodies asks for it.
use Rattle.std.proofs.Common.{◌≡◌, ◌≢◌, ℕ, ℤ, Bool, true, false, not, List, ◌∷◌, ◌++◌, Some, refl, sym, ap, ap₂, ◌∙◌, subst}
use Rattle.std.specs.Prelude.{if◌then◌else◌}
use Rattle.std.specs.List.{Contains}
use Rattle.std.proofs.lemmas.Bool.{and_from, not_from_false}
use Rattle.plcx_types.specs.declared.ty.Ty.{Ty}
use Rattle.plcx_types.specs.declared.ty.Ty.TheVariants as ty
use Rattle.plcx_types.specs.Name.{in_lower_case}
use Rattle.plcx_types.specs.Reserved.{is_own}
use Rattle.plcx_types.specs.TypeName.{same_ty}
use Rattle.plcx_funcs.specs.Applied.{value}
use Rattle.plcx_types.specs.Lists.{Each}
use Rattle.plcx_meaning.specs.Base.{Path, put, is_declared, Ended, Stuck, Site}
use Rattle.plcx_meaning.specs.Tree.{Class, Local, Input, Output, InOut, Temp}
use Rattle.plcx_meaning.specs.Layout.{Variable, variables_of, variable_named, parts, parts_of}
use Rattle.plcx_meaning.specs.Functions.{Given}
use Rattle.plcx_meaning.specs.Diagram.{Pou, Project}
use Rattle.plcx_meaning.specs.Evaluate as evaluate
use Rattle.plcx_meaning.specs.Evaluate.{is_in_out, leaf_named, operand_leaf}
use Rattle.plcx_meaning.specs.Execute as text
use Rattle.plcx_meaning.specs.Execute.{Referent, Temporary, Kept, Bound, Instance, elementary, referent_by, referent, TextSetting, referent_of, TextState, Frame, read, assign, leaf_at, has_leaf, parts_named, read_member, read_output, Formal, Takes, Binds, formal_by, formal, formal_named}
use Rattle.plcx_meaning.specs.Templates.{pou_text, unit_of}
use Rattle.plcx_meaning.specs.Fits.{IsVariable, IsInstance, PouFits, ProjectFits}
use Rattle.plcx_meaning.specs.Same.{IsDeclared}
use Rattle.plcx_meaning.proofs.Lists.{each_at}
use Rattle.plcx_meaning.proofs.Lookups.{own_variables, text_variables, named_first, found_name, each_found, IsDeclaredVariable}
use Rattle.plcx_meaning.proofs.LookupsOwn.{elementary_meaning, composed_meaning, variables_declared}
use Rattle.plcx_meaning.proofs.StaticsWorlds.{hidden, text_composed, composed_declared}
use Rattle.plcx_meaning.proofs.Asked.{VariableAsked}

-- where the statements of a POU of a project stand
abbrev pub here : Project → Pou → Site → TextSetting
here project p site = record { world = text.world_of (unit_of project); variables = variables_of (pou_text p).blocks; site = site }

pub type_self : (t : Ty) → same_ty t t ≡ true
type_self ty.Bool = refl
type_self ty.Byte = refl
type_self ty.Word = refl
type_self ty.Dword = refl
type_self ty.Lword = refl
type_self ty.Sint = refl
type_self ty.Int = refl
type_self ty.Dint = refl
type_self ty.Lint = refl
type_self ty.Usint = refl
type_self ty.Uint = refl
type_self ty.Udint = refl
type_self ty.Ulint = refl
type_self ty.Time = refl

-- a declared name isn't the compiler's own
pub name_declared : (vs : List Variable) (x : List ℕ) (v : Variable) → Each IsDeclaredVariable vs → variable_named (in_lower_case x) vs ≡ Some v → is_own (in_lower_case x) ≡ false
name_declared vs x v all found = sym (ap is_own (found_name (in_lower_case x) vs v found)) ∙ each_found IsDeclaredVariable (in_lower_case x) vs v all found

pub leaf_declared : (x : List ℕ) (p : Path) → is_own (in_lower_case x) ≡ false → is_declared p ≡ true → is_declared (in_lower_case x ∷ p) ≡ true
leaf_declared x p own h = and_from (not (is_own (in_lower_case x))) (is_declared p) (not_from_false (is_own (in_lower_case x)) own) h

-- the place and the leaf of a variable tell all that is asked of it
abbrev is_bound_class : Class → Bool
is_bound_class k = elim k [ InOut ↦ true | _ ↦ false ]

abbrev leaf_in : Class → List ℕ → Site → Path
leaf_in k x site = if is_bound_class k then site.bound (in_lower_case x) else in_lower_case x ∷ site.path

module _ (c : TextSetting) (vs : List Variable) (x : List ℕ) (t : Ty) (site : IsDeclared c.site) (own : is_own (in_lower_case x) ≡ false) where
  asked_at : (q : Referent) (leaf : Path) → referent_of c x ≡ q → leaf_named vs c.site x ≡ leaf
      → ((s : Path → ℤ) (f : Frame) → read q x c.site s f ≡ Given (value t (s leaf)))
      → ((n : ℤ) (g : TextState) (f : Frame) → assign q x c.site (value t n) g f ≡ (if same_ty t t then Ended (record g { store = put g.store leaf n }) f else Stuck))
      → has_leaf q t ≡ same_ty t t → leaf_at q x c.site ≡ leaf → is_declared leaf ≡ true → VariableAsked c vs x t
  asked_at q leaf is at reads writes has stands declared = record {
    reads = λ s f. ap (λ r. read r x c.site s f) is ∙ reads s f ∙ ap (λ l. Given (value t (s l))) (sym at);
    writes = λ n g f. ap (λ r. assign r x c.site (value t n) g f) is ∙ writes n g f ∙ ap₂ (λ b l. if b then Ended (record g { store = put g.store l n }) f else Stuck) (type_self t) (sym at);
    has = ap (λ r. has_leaf r t) is ∙ has ∙ type_self t;
    leaf = ap (λ r. leaf_at r x c.site) is ∙ stands ∙ sym at;
    declared = ap is_declared at ∙ declared;
  }

  asked_by : (k : Class) → k ≢ Temp → referent_of c x ≡ elementary k t → leaf_named vs c.site x ≡ leaf_in k x c.site → VariableAsked c vs x t
  asked_by Local other is at = asked_at (Kept t) (in_lower_case x ∷ c.site.path) is at (λ s f. refl) (λ n g f. refl) refl refl (leaf_declared x c.site.path own site.path)
  asked_by Input other is at = asked_at (Kept t) (in_lower_case x ∷ c.site.path) is at (λ s f. refl) (λ n g f. refl) refl refl (leaf_declared x c.site.path own site.path)
  asked_by Output other is at = asked_at (Kept t) (in_lower_case x ∷ c.site.path) is at (λ s f. refl) (λ n g f. refl) refl refl (leaf_declared x c.site.path own site.path)
  asked_by InOut other is at = asked_at (Bound t) (c.site.bound (in_lower_case x)) is at (λ s f. refl) (λ n g f. refl) refl refl (site.bound (in_lower_case x))
  asked_by Temp other is at = absurd (other refl)

module _ (project : Project) (p : Pou) (fits : ProjectFits project) (there : Contains project p) (site : Site) (ok : IsDeclared site) where
  pub pou_fits : PouFits project p
  pou_fits = each_at (PouFits project) project p fits.pous there

  -- what the diagram declares is declared in the text
  pub in_text : (x : List ℕ) (v : Variable) → variable_named (in_lower_case x) (variables_of p.lists) ≡ Some v → variable_named (in_lower_case x) (variables_of (pou_text p).blocks) ≡ Some v
  in_text x v h = ap (variable_named (in_lower_case x)) (text_variables p) ∙ named_first (in_lower_case x) (variables_of p.lists) (own_variables p) v h

  pub own_name : (x : List ℕ) (v : Variable) → variable_named (in_lower_case x) (variables_of p.lists) ≡ Some v → is_own (in_lower_case x) ≡ false
  own_name x v h = name_declared (variables_of p.lists) x v (variables_declared project p pou_fits) h

  pub variable_asked : (x : List ℕ) (t : Ty) → IsVariable (variables_of p.lists) x t → VariableAsked (here project p site) (variables_of p.lists) x t
  variable_asked x t is =
      let v : Variable = is.variable in
      let world = text.world_of (unit_of project) in
      asked_by (here project p site) (variables_of p.lists) x t ok (own_name x v is.found) v.class is.class
      (ap (referent world) (in_text x v is.found) ∙ ap (λ m. referent_by m v.class v.ty) (elementary_meaning world v.ty t is.typed))
      (ap (λ o. if is_in_out o then site.bound (in_lower_case x) else in_lower_case x ∷ site.path) is.found)

  -- the variables within an instance are those of the diagram, and what is hidden
  pub parts_are : (i : List ℕ) (within : List Variable) (is : IsInstance (evaluate.world_of project) (variables_of p.lists) i within) → parts_named (here project p site) i ≡ within ++ hidden project is.variable.ty
  parts_are i within is =
      let v : Variable = is.variable in
      let world = text.world_of (unit_of project) in
      ap (parts_of world) (in_text i v is.found) ∙ ap parts (composed_meaning world v.ty is.composite) ∙ text_composed project v.ty ∙ ap (λ w. w ++ hidden project v.ty) (sym is.parts)

  -- a variable within an instance
  pub member_found : (i x : List ℕ) (within : List Variable) (v : Variable) → IsInstance (evaluate.world_of project) (variables_of p.lists) i within → variable_named (in_lower_case x) within ≡ Some v
      → variable_named (in_lower_case x) (parts_named (here project p site) i) ≡ Some v
  member_found i x within v is h = ap (variable_named (in_lower_case x)) (parts_are i within is) ∙ named_first (in_lower_case x) within (hidden project is.variable.ty) v h

  pub member_own : (i x : List ℕ) (within : List Variable) (v : Variable) → IsInstance (evaluate.world_of project) (variables_of p.lists) i within → variable_named (in_lower_case x) within ≡ Some v → is_own (in_lower_case x) ≡ false
  member_own i x within v is h = name_declared within x v (subst (Each IsDeclaredVariable) (sym is.parts) (composed_declared project fits is.variable.ty)) h
