-- Which connections are feedback.
use Rattle.std.specs.Prelude.{◌≡◌, ◌↔◌, ℕ, ◌<◌, List, Bool, true, false, length, get_or}
use Rattle.plcx_model.specs.Graph.{Graph, KeyAtMost, from_at, to_at}
use Rattle.plcx_model.specs.Paths.{Reaches, IsWire}

-- a connection from u to v is feedback where v reaches u along connections and the key of v isn't greater than that of u
pub record IsFeedback (g : Graph) (u v : ℕ) : Type 0 where
  pub back : Reaches (IsWire g.wires) v u
  pub key : KeyAtMost g v u

-- a mark for each of the first n connections, true where it is feedback
pub record AreFirstMarks (g : Graph) (n : ℕ) (marks : List Bool) : Type 0 where
  pub count : length marks ≡ n
  pub each : (i : ℕ) → i < n → (get_or marks i false ≡ true) ↔ IsFeedback g (from_at g.wires i) (to_at g.wires i)

-- a mark for each connection
abbrev pub AreMarks : Graph → List Bool → Type 0
AreMarks g marks = AreFirstMarks g (length g.wires) marks
