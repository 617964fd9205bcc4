-- The networks of a body: classes of linked elements, in the order of their least places.
use Rattle.std.specs.Prelude.{◌≡◌, ◌↔◌, ℕ, ◌<◌, ◌⊎◌, List, [], ◌∷◌}
use Rattle.plcx_types.specs.Lists.{Each}
use Rattle.plcx_model.specs.Graph.{Graph, TakesPart, PlaceBefore, IsGraph}
use Rattle.plcx_model.specs.Paths.{Reaches, IsLink}

-- v is in the list
abbrev pub Listed : List ℕ → ℕ → Type 0
Listed [] v = ⊥
Listed (x ∷ xs) v = (v ≡ x) ⊎ Listed xs v

-- in the order of the body, each once
abbrev pub IsRising : List ℕ → Type 0
IsRising [] = Unit {0}
IsRising (x ∷ xs) = Each (λ y. x < y) xs × IsRising xs

-- all that links lead to from one element that takes part
pub record IsNetwork (g : Graph) (network : List ℕ) : Type 0 where
  pub one : ℕ
  pub takes_part : TakesPart g one
  pub class : (v : ℕ) → Listed network v ↔ Reaches (IsLink g) one v
  pub rising : IsRising network

-- an element of the one stands before all elements of the other
pub record ComesBefore (g : Graph) (network other : List ℕ) : Type 0 where
  pub least : ℕ
  pub there : Listed network least
  pub before : (v : ℕ) → Listed other v → PlaceBefore g least v

-- each comes before all that follow
abbrev pub AreInOrder : Graph → List (List ℕ) → Type 0
AreInOrder g [] = Unit {0}
AreInOrder g (network ∷ others) = Each (ComesBefore g network) others × AreInOrder g others

-- v is in one of the lists
abbrev pub IsInOne : List (List ℕ) → ℕ → Type 0
IsInOne [] v = ⊥
IsInOne (network ∷ others) v = Listed network v ⊎ IsInOne others v

-- the networks of a body, numbered from 0: each element that takes part is in one
pub record AreNetworks (g : Graph) (networks : List (List ℕ)) : Type 0 where
  pub each : Each (IsNetwork g) networks
  pub whole : (v : ℕ) → TakesPart g v → IsInOne networks v
  pub in_order : AreInOrder g networks

-- each body has exactly one list of networks
abbrev pub HaveOneListOfNetworks : Type 0
HaveOneListOfNetworks = (g : Graph) → IsGraph g → (networks : List (List ℕ)) × AreNetworks g networks × ((others : List (List ℕ)) → AreNetworks g others → others ≡ networks)
