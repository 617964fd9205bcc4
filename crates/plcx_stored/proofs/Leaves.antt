-- The values of a store by the numbers of leaves, and those of the diagram by their paths.
use Rattle.std.proofs.Common.{◌≡◌, ◌≤◌, ◌∷◌, ◌∙◌, ℕ, zero, suc, ℤ, List, [], Some, map, length, refl, sym, ap, subst, arith}
use Rattle.std.specs.Prelude.{slice_get}
use Rattle.std.proofs.lemmas.Option.{same_Some}
use Rattle.plcx_types.specs.Value.{Value}
use Rattle.plcx_meaning.specs.Base.{Path}
use Rattle.plcx_meaning.specs.Diagram.{Pou, Project}
use Rattle.plcx_meaning.specs.Layout.{Leaf as Meant}
use Rattle.plcx_state.specs.declared.layout.Leaf.{Leaf}
use Rattle.plcx_state.specs.Layouts.{Laid, all_meant, meant_path}
use Rattle.plcx_state.specs.Retains.{Pairwise, numbers, Agrees}
use Rattle.plcx_steps.specs.Numbered.{number_at}
use Rattle.plcx_numbered.specs.Agreeing.{Holds, plain_path}
use Rattle.plcx_numbered.specs.Numbers.{shape_of}
use Rattle.plcx_numbered.proofs.Laid.{paths_are}
use Rattle.plcx_stored.specs.LaidFor.{IsLaidFor}

-- the paths of leaves
abbrev pub paths_of : List Leaf → List Path
paths_of leaves = map (λ (leaf : Leaf). meant_path leaf.path) leaves

pub paths_meant : (leaves : List Leaf) → map (λ (m : Meant). m.path) (all_meant leaves) ≡ paths_of leaves
paths_meant [] = refl
paths_meant (leaf ∷ leaves) = ap (λ ps. meant_path leaf.path ∷ ps) (paths_meant leaves)

-- are those of the program's shape
pub paths_laid : (project : Project) (p : Pou) (l : Laid) → IsLaidFor project p l → paths_of l.leaves ≡ (shape_of project p).paths
paths_laid project p l laid = sym (paths_meant l.leaves) ∙ ap (map (λ (m : Meant). m.path)) laid.leaves.leaves ∙ paths_are project p

module _ (store : Path → ℤ) where
  abbrev Pairs : List Leaf → List Value → Type 0
  Pairs leaves values = Pairwise (λ (leaf : Leaf) n. store (meant_path leaf.path) ≡ n) leaves (numbers values)

  long : (leaves : List Leaf) (values : List Value) → Pairs leaves values → length (paths_of leaves) ≤ length values
  long [] [] h = omega arith
  long [] (v ∷ vs) h = absurd h
  long (l ∷ ls) [] h = absurd h
  long (l ∷ ls) (v ∷ vs) h = let rest = long ls vs h.1 in omega arith

  each : (leaves : List Leaf) (values : List Value) → Pairs leaves values → (i : ℕ) (p : Path) → slice_get (paths_of leaves) i ≡ Some p → store p ≡ number_at values i
  each [] values h i p at = absurd (cc)
  each (l ∷ ls) [] h i p at = absurd h
  each (l ∷ ls) (v ∷ vs) h zero p at = ap store (sym (same_Some (meant_path l.path) p at)) ∙ h.0
  each (l ∷ ls) (v ∷ vs) h (suc i) p at = each ls vs h.1 i p at

  pairs : (leaves : List Leaf) (values : List Value) → length leaves ≡ length values → ((i : ℕ) (p : Path) → slice_get (paths_of leaves) i ≡ Some p → store p ≡ number_at values i) → Pairs leaves values
  pairs [] [] e h = tt
  pairs [] (v ∷ vs) e h = absurd (omega arith)
  pairs (l ∷ ls) [] e h = absurd (omega arith)
  pairs (l ∷ ls) (v ∷ vs) e h = (h 0 (meant_path l.path) refl, pairs ls vs (omega arith) (λ i. h (suc i)))

  module _ (project : Project) (p : Pou) (l : Laid) (laid : IsLaidFor project p l) (values : List Value) where
    pub holds_from : Agrees l.leaves store (numbers values) → Holds plain_path (shape_of project p).paths store values
    holds_from a = subst (λ ps. Holds plain_path ps store values) (paths_laid project p l laid) (record { long = long l.leaves values a.agrees; each = each l.leaves values a.agrees })

    pub agrees_from : length l.leaves ≡ length values → Holds plain_path (shape_of project p).paths store values → Agrees l.leaves store (numbers values)
    agrees_from e h = record { agrees = pairs l.leaves values e (subst (λ ps. Holds plain_path ps store values) (sym (paths_laid project p l laid)) h).each }
