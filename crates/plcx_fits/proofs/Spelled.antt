-- The POUs of a diagram by their names, and what the names of types stand for there.
use Rattle.std.proofs.Common.{◌≡◌, ℕ, zero, suc, ◌+◌, Bool, true, false, cond, List, [], ◌∷◌, map, Option, Some, None, slice_get, get_or, refl, sym, ap, ap₂, ◌∙◌, subst, arith, if◌then◌else◌}
use Rattle.std.specs.Prelude.{not, ◌&&◌, ◌||◌}
use Rattle.std.specs.Str.{bytes_eq, str_eq_ignore_ascii_case}
use Rattle.std.proofs.lemmas.Bool.{or_parts}
use Rattle.plcx_types.specs.declared.ty.Ty.{Ty}
use Rattle.plcx_types.specs.Name.{in_lower_case, in_upper_case}
use Rattle.plcx_types.specs.Reserved.{is_in, enables, functions, blocks, is_conversion, is_listed, is_own, is_of_library, is_reserved, is_keyword}
use Rattle.plcx_types.specs.TypeName.{all_types, type_name, type_named}
use Rattle.plcx_types.specs.declared.ty.Ty.TheVariants as ty
use Rattle.plcx_std.specs.declared.kind.StdKind.{StdKind}
use Rattle.plcx_std.specs.declared.kind.StdKind.TheVariants as kind
use Rattle.plcx_std.specs.Kind.{all_kinds, kind_name, kind_named}
use Rattle.plcx_meaning.specs.Base.{are_distinct}
use Rattle.plcx_meaning.specs.Diagram.{is_program, block_named}
use Rattle.plcx_meaning.specs.Diagram as diagram
use Rattle.plcx_meaning.proofs.Lists.{distinct_parts, none_passes, contains_map}
use Rattle.plcx_meaning.proofs.Names.{bytes_self, folded_twice}
use Rattle.plcx_model.specs.declared.plan.Links.{Links}
use Rattle.plcx_model.specs.declared.plan.Types.{Types}
use Rattle.plcx_model.specs.declared.plan.Plan.{Plan}
use Rattle.plcx_model.specs.declared.project.PouKind.TheVariants.{FunctionBlock}
use Rattle.plcx_model.specs.declared.project.Pou.{Pou}
use Rattle.plcx_model.specs.declared.project.Project.{Project}
use Rattle.plcx_view.specs.Declared.{kind_of_pou}
use Rattle.plcx_view.specs.Diagrams.{pou_of, no_plan, pous_from, diagrams_of}
use Rattle.plcx_fits.proofs.Lists.{not_found, any_mapped, contains_at}

-- a name that is not reserved is that of no type and no standard block
not_listed : (name : List ℕ) → is_reserved name ≡ false → (is_in (map type_name all_types) name ≡ false) × (is_in blocks name ≡ false)
not_listed name free =
    let listed = or_parts (is_listed name) (is_own name) free in
    let own = or_parts (is_keyword name || is_in enables name || is_in (map type_name all_types) name) (is_of_library name) listed.0 in
    let types = or_parts (is_keyword name || is_in enables name) (is_in (map type_name all_types) name) own.0 in
    let library = or_parts (is_in functions name || is_conversion name) (is_in blocks name) own.1 in
    (types.1, library.1)

pub no_type : (name : List ℕ) → is_reserved name ≡ false → type_named name ≡ None
no_type name free = not_found (λ (t : Ty). str_eq_ignore_ascii_case name (type_name t)) all_types
    (sym (any_mapped (λ entry. str_eq_ignore_ascii_case name entry) type_name all_types) ∙ (not_listed name free).0)

pub no_kind : (name : List ℕ) → is_reserved name ≡ false → kind_named name ≡ None
no_kind name free = not_found (λ (k : StdKind). str_eq_ignore_ascii_case name (kind_name k)) all_kinds
    (sym (any_mapped (λ entry. str_eq_ignore_ascii_case name entry) kind_name all_kinds) ∙ (not_listed name free).1)

-- a standard block by its name, which is that of no type
pub kind_of_name : (k : StdKind) → (kind_named (kind_name k) ≡ Some k) × (type_named (kind_name k) ≡ None) × (kind_name k ≡ in_upper_case (kind_name k))
kind_of_name kind.Ton = (refl, refl, refl)
kind_of_name kind.Tof = (refl, refl, refl)
kind_of_name kind.Tp = (refl, refl, refl)
kind_of_name kind.Ctu = (refl, refl, refl)
kind_of_name kind.Ctd = (refl, refl, refl)
kind_of_name kind.Ctud = (refl, refl, refl)
kind_of_name kind.Sr = (refl, refl, refl)
kind_of_name kind.Rs = (refl, refl, refl)
kind_of_name kind.RTrig = (refl, refl, refl)
kind_of_name kind.FTrig = (refl, refl, refl)

-- names of types stand in capitals
pub upper_types : (t : Ty) → type_name t ≡ in_upper_case (type_name t)
upper_types ty.Bool = refl
upper_types ty.Byte = refl
upper_types ty.Word = refl
upper_types ty.Dword = refl
upper_types ty.Lword = refl
upper_types ty.Sint = refl
upper_types ty.Int = refl
upper_types ty.Dint = refl
upper_types ty.Lint = refl
upper_types ty.Usint = refl
upper_types ty.Uint = refl
upper_types ty.Udint = refl
upper_types ty.Ulint = refl
upper_types ty.Time = refl

-- a block is found under its name without case
pub block_folded : (name : List ℕ) (project : diagram.Project) → block_named (in_lower_case name) project ≡ block_named name project
block_folded name [] = refl
block_folded name (p ∷ ps) =
    ap₂ (λ key (o : Option diagram.Pou). if not (is_program p.kind) && bytes_eq (in_lower_case p.name) key then Some p else o) (folded_twice name) (block_folded name ps)

-- the names of POUs without case
abbrev pub names_of : List Pou → List (List ℕ)
names_of ps = map (λ (p : Pou). in_lower_case p.name) ps

module _ (project : Project) (links : Links) (types : Types) (plan : Plan) where
  -- the diagram of the POU at a place
  abbrev pub seen : ℕ → Pou → diagram.Pou
  seen i p = pou_of project.pous p (get_or links.bodies i []) (get_or types.inputs i []) (get_or plan.bodies i no_plan)

  abbrev pub whole : diagram.Project
  whole = diagrams_of project links types plan

  -- a POU of another name isn't found
  past : (p q : Pou) (i : ℕ) (ps : List Pou) → bytes_eq (in_lower_case p.name) (in_lower_case q.name) ≡ false → block_named q.name (pous_from project links types plan i (p ∷ ps)) ≡ block_named q.name (pous_from project links types plan (i + 1) ps)
  past p q i ps apart = by (not (is_program (kind_of_pou p.kind)))
    where
      by : (b : Bool) → cond (b && bytes_eq (in_lower_case p.name) (in_lower_case q.name)) (Some (seen i p)) (block_named q.name (pous_from project links types plan (i + 1) ps)) ≡ block_named q.name (pous_from project links types plan (i + 1) ps)
      by true = rw apart refl
      by false = refl

  found_from : (i : ℕ) (ps : List Pou) (k : ℕ) (q : Pou) → slice_get ps k ≡ Some q → q.kind ≡ FunctionBlock → are_distinct (names_of ps) ≡ true → block_named q.name (pous_from project links types plan i ps) ≡ Some (seen (i + k) q)
  found_from i [] k q at block distinct = absurd (cc)
  found_from i (p ∷ ps) zero q at block distinct =
      let same : p ≡ q = cc in
      subst (λ (r : Pou). r.kind ≡ FunctionBlock → block_named r.name (pous_from project links types plan i (p ∷ ps)) ≡ Some (seen (i + 0) r)) same
      (λ e. by (not (is_program (kind_of_pou p.kind))) (bytes_eq (in_lower_case p.name) (in_lower_case p.name)) (rw e refl) (bytes_self (in_lower_case p.name))) block
    where
      by : (b c : Bool) → b ≡ true → c ≡ true → cond (b && c) (Some (seen i p)) (block_named p.name (pous_from project links types plan (i + 1) ps)) ≡ Some (seen (i + 0) p)
      by true true e f = let zero_more : i ≡ i + 0 = omega arith in ap (λ j. Some (seen j p)) zero_more
      by true false e f = absurd (cc)
      by false c e f = absurd (cc)
  found_from i (p ∷ ps) (suc k) q at block distinct =
      let parts = distinct_parts (in_lower_case p.name) (names_of ps) distinct in
      let apart = none_passes (bytes_eq (in_lower_case p.name)) (names_of ps) (in_lower_case q.name) parts.0 (contains_map (λ (r : Pou). in_lower_case r.name) ps q (contains_at ps k q at)) in
      let moved : i + 1 + k ≡ i + suc k = omega arith in
      past p q i ps apart ∙ found_from (i + 1) ps k q at block parts.1 ∙ ap (λ j. Some (seen j q)) moved

  -- the function block at a place is found under its name
  pub block_found : are_distinct (names_of project.pous) ≡ true → (k : ℕ) (q : Pou) → slice_get project.pous k ≡ Some q → q.kind ≡ FunctionBlock → block_named q.name whole ≡ Some (seen k q)
  block_found distinct k q at block = let moved : 0 + k ≡ k = omega arith in found_from 0 project.pous k q at block distinct ∙ ap (λ j. Some (seen j q)) moved
