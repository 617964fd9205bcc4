-- A unit is refused exactly where it breaks something.
use Rattle.std.proofs.Common.{◌≡◌, List, [], Some, None, refl, sym, ap, subst, ◌∙◌}
use Rattle.plcx_meaning.specs.Ready.{IsReady}
use Rattle.plcx_st.specs.declared.tree.Unit as tree
use Rattle.plcx_st.specs.Meant.{meant}
use Rattle.plcx_conditions.specs.declared.broken.Condition.{Condition}
use Rattle.plcx_conditions.specs.declared.broken.Condition.TheVariants as condition
use Rattle.plcx_conditions.specs.declared.broken.Broken.{Broken}
use Rattle.plcx_conditions.specs.First.{first_of}
use Rattle.plcx_conditions.specs.Places.{placed}
use Rattle.plcx_conditions.specs.Declarations.{broken_in}
use Rattle.plcx_conditions.proofs.Firsts.{nothing, first_is}
use Rattle.plcx_conditions.proofs.Units.{ready_none, none_ready}
use Rattle.plcx_conditions.proofs.Views.{unit_bare}
use Rattle.plcx_unit.specs.Refused.{fault_by, fault_of, Breaks, Refuses}

pub ready_by : (u : tree.Unit) → first_of (broken_in (placed u)) ≡ None → IsReady (meant u)
ready_by u h = subst IsReady (unit_bare u) (none_ready (placed u) (nothing (broken_in (placed u)) h))

no_first : (all : List Broken) (b : Broken) → first_of all ≡ Some b → all ≡ [] → ⊥
unfolding first_of
no_first all b h none = let no : None ≡ Some b = sym (ap first_of none) ∙ h in absurd (cc)

breaks : (u : tree.Unit) (b : Broken) → first_of (broken_in (placed u)) ≡ Some b → Breaks u (fault_of b)
breaks u b h = record {
  first = b;
  is_first = first_is (broken_in (placed u)) b h;
  named = refl;
  unready = λ ready. no_first (broken_in (placed u)) b h (ready_none (placed u) (subst IsReady (sym (unit_bare u)) ready));
}

pub refused_by : (u : tree.Unit) (b : Broken) → first_of (broken_in (placed u)) ≡ Some b → Refuses u (fault_of b)
refused_by u b h = by b.condition refl
  where
    by : (k : Condition) → b.condition ≡ k → Refuses u (fault_by b.condition b.at)
    by condition.Name e = let f = subst (λ (j : Condition). Breaks u (fault_by j b.at)) e (breaks u b h) in subst (λ (j : Condition). Refuses u (fault_by j b.at)) (sym e) f
    by condition.Types e = let f = subst (λ (j : Condition). Breaks u (fault_by j b.at)) e (breaks u b h) in subst (λ (j : Condition). Refuses u (fault_by j b.at)) (sym e) f
    by condition.Recursion e = let f = subst (λ (j : Condition). Breaks u (fault_by j b.at)) e (breaks u b h) in subst (λ (j : Condition). Refuses u (fault_by j b.at)) (sym e) f
    by condition.Literal e = let f = subst (λ (j : Condition). Breaks u (fault_by j b.at)) e (breaks u b h) in subst (λ (j : Condition). Refuses u (fault_by j b.at)) (sym e) f
