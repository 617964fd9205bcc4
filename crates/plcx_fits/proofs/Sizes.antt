-- A diagram has at most twice the parts of its project.
use Rattle.std.proofs.Common.{◌≡◌, ℕ, zero, suc, ◌+◌, ◌*◌, ◌≤◌, List, [], ◌∷◌, map, length, Option, Some, None, slice_get, refl, ap, ◌∙◌, subst, arith, if◌then◌else◌}
use Rattle.std.specs.Prelude.{is_some}
use Rattle.std.specs.List.{flat_map, sum_by}
use Rattle.std.proofs.lemmas.List.Sums.{sum_by-append, sum_by-cons}
use Rattle.plcx_types.specs.declared.ty.Ty.{Ty}
use Rattle.plcx_types.specs.Limits.{max_parts}
use Rattle.plcx_types.specs.Lists.{Each}
use Rattle.plcx_types.specs.TypeName.{type_name, type_named}
use Rattle.plcx_std.specs.declared.kind.StdKind.{StdKind}
use Rattle.plcx_std.specs.Kind.{kind_name, kind_named}
use Rattle.plcx_meaning.specs.Diagram.{block_named, DiagramElement}
use Rattle.plcx_meaning.specs.Diagram as diagram
use Rattle.plcx_meaning.specs.Fits.{variable_parts}
use Rattle.plcx_meaning.specs.Fits as fits
use Rattle.plcx_meaning.specs.Layout.{block_variables}
use Rattle.plcx_meaning.specs.Layout as layout
use Rattle.plcx_meaning.specs.Tree as tree
use Rattle.plcx_meaning.proofs.LookupsOwn.{type_of_name}
use Rattle.plcx_model.specs.declared.plan.Links.{Links}
use Rattle.plcx_model.specs.declared.plan.Types.{Types}
use Rattle.plcx_model.specs.declared.plan.Plan.{Plan}
use Rattle.plcx_model.specs.declared.project.VarTy.{VarTy}
use Rattle.plcx_model.specs.declared.project.VarTy.TheVariants.{Plain, Std, Block}
use Rattle.plcx_model.specs.declared.project.Variable.{Variable}
use Rattle.plcx_model.specs.declared.project.VarList.{VarList}
use Rattle.plcx_model.specs.declared.project.Pou.{Pou}
use Rattle.plcx_model.specs.declared.project.Project.{Project}
use Rattle.plcx_model.specs.Sound.{variables_of, IsKnown, Nests, PouIsSound, Sound, connections, count_at, type_parts, parts}
use Rattle.plcx_view.specs.Declared.{class_of, mark_of, spelled_type, declaration_of, list_of}
use Rattle.plcx_fits.proofs.Spelled.{kind_of_name, seen, whole}
use Rattle.plcx_fits.proofs.Variables.{is_block}
use Rattle.plcx_fits.proofs.Nests.{nested, sound_nests}

-- what a variable adds, by what the name of its type stands for
abbrev parts_by : (diagram.Pou → ℕ) → Option Ty → Option StdKind → Option diagram.Pou → ℕ
parts_by inner a b c = if is_some a then 0 else if is_some b then 1 else (elim c [ Some q ↦ suc (inner q) | None ↦ 1 ])

module _ (project : Project) (links : Links) (types : Types) (plan : Plan) (sound : Sound project) where
  abbrev pous : List Pou
  pous = project.pous

  abbrev dia : diagram.Project
  dia = whole project links types plan

  -- the elements of each body and what feeds back there are at most twice its elements and connections
  abbrev pub AreBounded : Type 0
  AreBounded = (i : ℕ) (p : Pou) → slice_get pous i ≡ Some p
      → sum_by (λ (e : DiagramElement). suc (length e.fed)) (seen project links types plan i p).elements ≤ 2 * (length p.body.elements + sum_by connections p.body.elements)

  abbrev CountsParts : ℕ → Type 0
  CountsParts n = (k i : ℕ) (p : Pou) → slice_get pous i ≡ Some p → PouIsSound pous p → Each (λ (v : Variable). Nests pous n v.ty) (variables_of p) → fits.parts k dia (seen project links types plan i p) ≤ 2 * parts pous (suc n) p

  one_variable : (n k : ℕ) → ((m : ℕ) → n ≡ suc m → CountsParts m) → (class : tree.Class) (mark : tree.Mark) (v : Variable) (t : VarTy) → v.ty ≡ t → IsKnown pous t → Nests pous n t
      → parts_by (fits.parts k dia) (type_named (spelled_type pous t)) (kind_named (spelled_type pous t)) (block_named (spelled_type pous t) dia) ≤ 2 * type_parts (parts pous n) pous t
  one_variable n k below class mark v (Plain t) is known nests =
      let e = ap (λ a. parts_by (fits.parts k dia) a (kind_named (type_name t)) (block_named (type_name t) dia)) (type_of_name t) in omega arith
  one_variable n k below class mark v (Std s) is known nests =
      let facts = kind_of_name s in
      let e = ap (λ a. parts_by (fits.parts k dia) a (kind_named (kind_name s)) (block_named (kind_name s) dia)) facts.1 ∙ ap (λ b. parts_by (fits.parts k dia) None b (block_named (kind_name s) dia)) facts.0 in
      omega arith
  one_variable zero k below class mark v (Block place) is known nests = absurd nests
  one_variable (suc m) k below class mark v (Block place) is known nests =
      let b = is_block project links types plan sound place known.0 known.1 known.2 in
      let name = spelled_type pous (Block place) in
      let e = ap (λ a. parts_by (fits.parts k dia) a (kind_named name) (block_named name dia)) b.no_type ∙ ap (λ o. parts_by (fits.parts k dia) None o (block_named name dia)) b.no_kind ∙ ap (λ o. parts_by (fits.parts k dia) None None o) b.found in
      let inner = below m refl k place known.0 b.at b.keeps (nests known.0 known.1) in
      let there = ap (count_at (parts pous (suc m))) known.1 in
      omega arith

  list_parts : (n k : ℕ) → ((m : ℕ) → n ≡ suc m → CountsParts m) → (class : tree.Class) (mark : tree.Mark) (vs : List Variable) → Each (λ (v : Variable). IsKnown pous v.ty × Nests pous n v.ty) vs
      → sum_by (variable_parts (fits.parts k dia) dia) (map (layout.variable class mark) (map (declaration_of pous) vs)) ≤ 2 * sum_by (λ (v : Variable). type_parts (parts pous n) pous v.ty) vs
  list_parts n k below class mark [] all = omega arith
  list_parts n k below class mark (v ∷ vs) all =
      let left = sum_by-cons (variable_parts (fits.parts k dia) dia) (layout.variable class mark (declaration_of pous v)) (map (layout.variable class mark) (map (declaration_of pous) vs)) in
      let right = sum_by-cons (λ (w : Variable). type_parts (parts pous n) pous w.ty) v vs in
      let one = one_variable n k below class mark v v.ty refl all.0.0 all.0.1 in
      let rest = list_parts n k below class mark vs all.1 in
      omega arith

  lists_parts : (n k : ℕ) → ((m : ℕ) → n ≡ suc m → CountsParts m) → (lists : List VarList) → Each (λ (l : VarList). Each (λ (v : Variable). IsKnown pous v.ty × Nests pous n v.ty) l.variables) lists
      → sum_by (variable_parts (fits.parts k dia) dia) (layout.variables_of (map (list_of pous) lists)) ≤ 2 * sum_by (λ (v : Variable). type_parts (parts pous n) pous v.ty) (flat_map (λ (l : VarList). l.variables) lists)
  lists_parts n k below [] all = omega arith
  lists_parts n k below (l ∷ lists) all =
      let left = sum_by-append (variable_parts (fits.parts k dia) dia) (block_variables (list_of pous l)) (layout.variables_of (map (list_of pous) lists)) in
      let right = sum_by-append (λ (w : Variable). type_parts (parts pous n) pous w.ty) l.variables (flat_map (λ (m : VarList). m.variables) lists) in
      let one = list_parts n k below (class_of l.class) (mark_of l) l.variables all.0 in
      let rest = lists_parts n k below lists all.1 in
      omega arith

  pou_parts : AreBounded → (n : ℕ) → ((m : ℕ) → n ≡ suc m → CountsParts m) → CountsParts n
  pou_parts bounded n below zero i p at s nests = omega arith
  pou_parts bounded n below (suc k) i p at s nests =
      let own = bounded i p at in
      let declared = lists_parts n k below p.lists (nested project links types plan sound n p s nests) in
      omega arith

  parts_counted : AreBounded → (n : ℕ) → CountsParts n
  parts_counted bounded zero = pou_parts bounded zero (λ m e. absurd (omega arith))
  parts_counted bounded (suc n) = pou_parts bounded (suc n) (λ m e. let same : n ≡ m = omega arith in subst CountsParts same (parts_counted bounded n))

  pub parts_fit : AreBounded → (i : ℕ) (p : Pou) → slice_get pous i ≡ Some p → PouIsSound pous p → fits.parts 18 dia (seen project links types plan i p) ≤ 2 * max_parts
  parts_fit bounded i p at s =
      let most = parts_counted bounded 16 18 i p at s (sound_nests project links types plan sound p s) in
      let few = s.parts in
      omega arith
