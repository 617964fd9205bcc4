-- How a unit that isn't ready is refused.
use Rattle.std.specs.Prelude.{◌≡◌, ℕ}
use Rattle.plcx_meaning.specs.Ready.{IsReady}
use Rattle.plcx_st.specs.declared.tree.Unit as tree
use Rattle.plcx_st.specs.Meant.{meant}
use Rattle.plcx_conditions.specs.declared.broken.Condition.{Condition}
use Rattle.plcx_conditions.specs.declared.broken.Condition.TheVariants as condition
use Rattle.plcx_conditions.specs.declared.broken.Broken.{Broken}
use Rattle.plcx_conditions.specs.Broken.{IsFirst}
use Rattle.plcx_conditions.specs.Places.{placed}
use Rattle.plcx_conditions.specs.Declarations.{broken_in}
use Rattle.plcx_unit.specs.declared.error.UnitFault.{UnitFault}
use Rattle.plcx_unit.specs.declared.error.UnitFault.TheVariants as fault

-- the answer that names a condition
abbrev pub fault_by : Condition → (at : ℕ) → UnitFault
fault_by condition.Name at = fault.Name at
fault_by condition.Types at = fault.WrongType at
fault_by condition.Recursion at = fault.Recursion at
fault_by condition.Literal at = fault.Literal at

abbrev pub fault_of : Broken → UnitFault
fault_of b = fault_by b.condition b.at

-- A fault other than want of memory is the condition that comes first of all that the unit breaks, and the unit isn't ready.
pub record Breaks (unit : tree.Unit) (f : UnitFault) : Type 0 where
  pub first : Broken
  pub is_first : IsFirst (broken_in (placed unit)) first
  pub named : f ≡ fault_of first
  pub unready : IsReady (meant unit) → ⊥

abbrev pub Refuses : tree.Unit → UnitFault → Type 0
Refuses unit fault.NoMemory = Unit {0}
Refuses unit (fault.Name at) = Breaks unit (fault.Name at)
Refuses unit (fault.WrongType at) = Breaks unit (fault.WrongType at)
Refuses unit (fault.Recursion at) = Breaks unit (fault.Recursion at)
Refuses unit (fault.Literal at) = Breaks unit (fault.Literal at)
