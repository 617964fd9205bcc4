-- The values of a store by the numbers of leaves, and those of the text by their paths.
use Rattle.std.proofs.Common.{◌≡◌, ◌≤◌, ◌∷◌, ◌∙◌, ℕ, zero, suc, ℤ, List, [], Some, map, length, refl, sym, ap, ap₂, subst, arith}
use Rattle.std.specs.Prelude.{slice_get}
use Rattle.std.proofs.lemmas.List.{append-nil}
use Rattle.std.proofs.lemmas.Option.{same_Some}
use Rattle.plcx_types.specs.Value.{Value}
use Rattle.plcx_meaning.specs.Base.{Path}
use Rattle.plcx_meaning.specs.Execute.{world_of, scope_of}
use Rattle.plcx_meaning.specs.Layout.{variables_of, Scope, layout}
use Rattle.plcx_meaning.specs.Layout.{Leaf as Meant}
use Rattle.plcx_meaning.specs.Tree.{PouText}
use Rattle.plcx_state.specs.declared.layout.Leaf.{Leaf}
use Rattle.plcx_state.specs.Layouts.{Laid, all_meant, meant_path}
use Rattle.plcx_state.specs.Retains.{Pairwise, numbers, Agrees}
use Rattle.plcx_steps.specs.Numbered.{number_at}
use Rattle.plcx_numbered.specs.Agreeing.{Holds, plain_path}
use Rattle.plcx_numbered.specs.Numbers.{Place, places, depth}
use Rattle.plcx_numbered.proofs.Laid.{place_of, below, placed}
use Rattle.plcx_stored.proofs.Leaves.{paths_of, paths_meant}
use Rattle.plcx_text_numbered.specs.Numbers.{plan_of}
use Rattle.plcx_text_stored.specs.LaidFor.{IsLaidFor}

whole : (xs : List Place) → below [] xs ≡ xs
whole [] = refl
whole (x ∷ xs) = ap₂ (λ p (rest : List Place). (p, x.1) ∷ rest) (append-nil x.0) (whole xs)

of_places : {A : Type 0} (f : Place → A) (ls : List Meant) → map f (map place_of ls) ≡ map (λ (l : Meant). f (l.path, l.ty)) ls
of_places f [] = refl
of_places f (l ∷ ls) = ap (λ rest. f (l.path, l.ty) ∷ rest) (of_places f ls)

-- what is told of each leaf of a program by its path and type
pub by_number : {A : Type 0} (f : Place → A) (c : Scope) → map (λ (l : Meant). f (l.path, l.ty)) (layout c) ≡ map f (places depth c.world c.own)
by_number f c = sym (of_places f (layout c)) ∙ ap (map f) (placed 18 c [] c.own ∙ whole (places 18 c.world c.own))

-- the paths of the leaves are those of the program's plan
pub paths_laid : (unit : List PouText) (p : PouText) (l : Laid) → IsLaidFor unit p l → paths_of l.leaves ≡ (plan_of unit p).plan.paths
paths_laid unit p l laid = sym (paths_meant l.leaves) ∙ ap (map (λ (m : Meant). m.path)) laid.leaves.leaves ∙ by_number (λ x. x.0) (scope_of unit p)

module _ (store : Path → ℤ) where
  abbrev Pairs : List Leaf → List Value → Type 0
  Pairs leaves values = Pairwise (λ (leaf : Leaf) n. store (meant_path leaf.path) ≡ n) leaves (numbers values)

  long : (leaves : List Leaf) (values : List Value) → Pairs leaves values → length (paths_of leaves) ≤ length values
  long [] [] h = omega arith
  long [] (v ∷ vs) h = absurd h
  long (l ∷ ls) [] h = absurd h
  long (l ∷ ls) (v ∷ vs) h = let rest = long ls vs h.1 in omega arith

  each : (leaves : List Leaf) (values : List Value) → Pairs leaves values → (i : ℕ) (p : Path) → slice_get (paths_of leaves) i ≡ Some p → store p ≡ number_at values i
  each [] values h i p at = absurd (cc)
  each (l ∷ ls) [] h i p at = absurd h
  each (l ∷ ls) (v ∷ vs) h zero p at = ap store (sym (same_Some (meant_path l.path) p at)) ∙ h.0
  each (l ∷ ls) (v ∷ vs) h (suc i) p at = each ls vs h.1 i p at

  pairs : (leaves : List Leaf) (values : List Value) → length leaves ≡ length values → ((i : ℕ) (p : Path) → slice_get (paths_of leaves) i ≡ Some p → store p ≡ number_at values i) → Pairs leaves values
  pairs [] [] e h = tt
  pairs [] (v ∷ vs) e h = absurd (omega arith)
  pairs (l ∷ ls) [] e h = absurd (omega arith)
  pairs (l ∷ ls) (v ∷ vs) e h = (h 0 (meant_path l.path) refl, pairs ls vs (omega arith) (λ i. h (suc i)))

  module _ (unit : List PouText) (p : PouText) (l : Laid) (laid : IsLaidFor unit p l) (values : List Value) where
    pub holds_from : Agrees l.leaves store (numbers values) → Holds plain_path (plan_of unit p).plan.paths store values
    holds_from a = subst (λ ps. Holds plain_path ps store values) (paths_laid unit p l laid) (record { long = long l.leaves values a.agrees; each = each l.leaves values a.agrees })

    pub agrees_from : length l.leaves ≡ length values → Holds plain_path (plan_of unit p).plan.paths store values → Agrees l.leaves store (numbers values)
    agrees_from e h = record { agrees = pairs l.leaves values e (subst (λ ps. Holds plain_path ps store values) (sym (paths_laid unit p l laid)) h).each }
