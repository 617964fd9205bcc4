-- The choices of a network.
use Rattle.std.proofs.Common.{◌≡◌, ℕ, zero, suc, ◌<◌, List, [], ◌∷◌, length, get_or, Option, Some, None, sym, ap, subst, arith}
use Rattle.std.specs.Prelude.{slice_get}
use Rattle.std.specs.List.{filter_map, cons_option}
use Rattle.plcx_types.specs.Lists.{Each}
use Rattle.plcx_meaning.specs.Diagram.{DiagramElement}
use Rattle.plcx_meaning.specs.Tree.{Statement, If, Assign, statements}
use Rattle.plcx_meaning.specs.Evaluate.{leads_to}
use Rattle.plcx_meaning.specs.Templates.{wire, dint, counter_name, choice_text, choices_text}
use Rattle.plcx_rules.proofs.Lists.{each_split}

module _ (P : Statement → Type 0) (networks : List (List DiagramElement)) (es : List DiagramElement) where
  -- what holds of the choices of a network holds of that of one of its elements
  pub choices_at : (places : List ℕ) (i : ℕ) (x : DiagramElement) → i < length places → Some x ≡ slice_get es (get_or places i 0) → Each P (choices_text networks (filter_map (slice_get es) places)) → Each P (choice_text networks x)
  choices_at [] i x low is all = absurd (omega arith)
  choices_at (p ∷ places) zero x low is all =
      let here = subst (λ (o : Option DiagramElement). Each P (choices_text networks (cons_option o (filter_map (slice_get es) places)))) (sym is) all in
      (each_split P (choices_text networks (filter_map (slice_get es) places)) (choice_text networks x) here).1
  choices_at (p ∷ places) (suc i) x low is all = choices_at places i x (omega arith) is (by (slice_get es p) all)
    where
      by : (o : Option DiagramElement) → Each P (choices_text networks (cons_option o (filter_map (slice_get es) places))) → Each P (choices_text networks (filter_map (slice_get es) places))
      by None h = h
      by (Some y) h = (each_split P (choices_text networks (filter_map (slice_get es) places)) (choice_text networks y) h).0

-- the choice of an element that leads somewhere
pub choice_is : (networks : List (List DiagramElement)) (e : DiagramElement) (n : ℕ) → Some n ≡ leads_to networks e.kind → If (wire e.id []) (statements (Assign counter_name (dint n) ∷ [])) ∷ [] ≡ choice_text networks e
choice_is networks e n is = ap (λ (o : Option ℕ). elim o [ Some m ↦ If (wire e.id []) (statements (Assign counter_name (dint m) ∷ [])) ∷ [] | None ↦ [] ]) is
