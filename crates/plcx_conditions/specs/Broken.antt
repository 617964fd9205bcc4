-- What is broken in a unit, and which of it comes first.
use Rattle.std.specs.Prelude.{◌≡◌, ℕ, ◌<◌, ◌≤◌, ◌⊎◌, Bool, true, false, List, [], ◌∷◌}
use Rattle.std.specs.List.{Contains}
use Rattle.plcx_types.specs.Lists.{Each}
use Rattle.plcx_conditions.specs.declared.broken.Condition.{Condition}
use Rattle.plcx_conditions.specs.declared.broken.Condition.TheVariants.{Name, Types, Recursion, Literal}
use Rattle.plcx_conditions.specs.declared.broken.Broken.{Broken}

-- the condition is broken at the place
abbrev pub broken : Condition → ℕ → Broken
broken condition at = record { condition = condition; at = at }

-- it is, where the test holds
abbrev pub broken_if : Bool → Condition → ℕ → List Broken
broken_if true condition at = broken condition at ∷ []
broken_if false condition at = []

-- the order of the conditions at one place
abbrev pub rank : Condition → ℕ
rank Name = 0
rank Types = 1
rank Recursion = 2
rank Literal = 3

-- b has the lesser place, or at one place the earlier condition, or is c
abbrev pub ComesFirst : (b c : Broken) → Type 0
ComesFirst b c = (b.at < c.at) ⊎ ((b.at ≡ c.at) × (rank b.condition ≤ rank c.condition))

-- the one that comes first of all that is broken
pub record IsFirst (all : List Broken) (b : Broken) : Type 0 where
  pub among : Contains all b
  pub first : Each (ComesFirst b) all
