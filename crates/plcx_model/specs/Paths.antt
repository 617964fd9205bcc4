-- Paths along a relation between elements, and the relations that there are.
use Rattle.std.specs.Prelude.{◌≡◌, ℕ, ◌<◌, ◌⊎◌, List, [], ◌∷◌, length}
use Rattle.plcx_model.specs.declared.source.Wire.{Wire}
use Rattle.plcx_model.specs.Graph.{Graph, TakesPart, from_at, to_at}

-- each step of the path from u over these elements to v is one of the relation
abbrev pub IsPath : (ℕ → ℕ → Type 0) → ℕ → List ℕ → ℕ → Type 0
IsPath R u [] v = u ≡ v
IsPath R u (w ∷ path) v = R u w × IsPath R w path v

-- zero or more steps lead from u to v
pub record Reaches (R : ℕ → ℕ → Type 0) (u v : ℕ) : Type 0 where
  pub path : List ℕ
  pub leads : IsPath R u path v

-- a connection leads from u to v
pub record IsWire (ws : List Wire) (u v : ℕ) : Type 0 where
  pub place : ℕ
  pub below : place < length ws
  pub out_of : from_at ws place ≡ u
  pub into : to_at ws place ≡ v

-- both take part, and a connection leads from one to the other
pub record IsLink (g : Graph) (u v : ℕ) : Type 0 where
  pub first : TakesPart g u
  pub second : TakesPart g v
  pub wired : IsWire g.wires u v ⊎ IsWire g.wires v u
