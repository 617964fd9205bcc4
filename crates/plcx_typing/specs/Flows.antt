-- How types flow among the groups of a body. Only proofs are served by it.
use Rattle.std.specs.Prelude.{◌≡◌, ℕ, ◌<◌, List, Some, length}
use Rattle.std.specs.List.{All, Contains}
use Rattle.plcx_types.specs.declared.ty.Ty.{Ty}
use Rattle.plcx_funcs.specs.declared.pins.Class.TheVariants as class
use Rattle.plcx_model.specs.declared.source.Source.{Source}
use Rattle.plcx_rules.specs.declared.form.Pin.{Pin}
use Rattle.plcx_rules.specs.declared.form.Gives.{Gives}
use Rattle.plcx_rules.specs.declared.form.Gives.TheVariants.{Typed, Grouped, Untyped, Nothing}
use Rattle.plcx_rules.specs.Types.{Sheet, pin_at, sources_at, gives_at, AtGroup, HasType}
use Rattle.plcx_typing.specs.declared.flow.Fact.{Fact}
use Rattle.plcx_typing.specs.Closure.{fact, next_of, IsFlow}

-- each pin is one of an element
abbrev pub ArePlaced : ℕ → List Pin → Type 0
ArePlaced n pins = All (λ (p : Pin). p.element < n) pins

-- what flows leads from types that points have to such
pub record IsFlowOf (s : Sheet) (seeds : List Fact) (next : List (List ℕ)) : Type 0 where
  pub within : IsFlow (length s.forms) seeds next
  pub seeded : (e : ℕ) (t : Ty) → Contains seeds (fact e t) → HasType s (AtGroup e) t
  pub passed : (u v : ℕ) (t : Ty) → Contains (next_of next u) v → HasType s (AtGroup u) t → HasType s (AtGroup v) t

-- what a source gives flows to an element
abbrev pub Feeds : List Fact → List (List ℕ) → ℕ → Source → Gives → Type 0
Feeds seeds next e o (Typed t) = Contains seeds (fact e t)
Feeds seeds next e o Grouped = Contains (next_of next o.element) e
Feeds seeds next e o (Untyped n) = Unit {0}
Feeds seeds next e o Nothing = Unit {0}

-- so do all sources at a pin
abbrev pub FeedsAt : Sheet → List Fact → List (List ℕ) → ℕ → Type 0
FeedsAt s seeds next i = (o : Source) → Contains (sources_at s i) o → Feeds seeds next (pin_at s i).element o (gives_at s o)

abbrev pub IsGroupPin : Sheet → ℕ → Type 0
IsGroupPin s i = (pin_at s i).class ≡ Some class.Group

-- nothing that flows is lost
pub record Grows (seeds : List Fact) (next : List (List ℕ)) (seeds' : List Fact) (next' : List (List ℕ)) : Type 0 where
  pub seeded : (f : Fact) → Contains seeds f → Contains seeds' f
  pub passed : (u v : ℕ) → Contains (next_of next u) v → Contains (next_of next' u) v
