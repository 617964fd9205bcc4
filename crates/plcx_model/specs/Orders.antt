-- The order of a network.
use Rattle.std.specs.Prelude.{◌≡◌, ℕ, List, [], ◌∷◌, ◌++◌}
use Rattle.plcx_model.specs.Graph.{Graph, KeyAtMost, IsGraph}
use Rattle.plcx_model.specs.Paths.{IsWire}
use Rattle.plcx_model.specs.Networks.{Listed, IsNetwork}
use Rattle.plcx_model.specs.Feedback.{IsFeedback}

-- v isn't listed yet, and its sources in the network by connections that aren't feedback are
pub record IsReady (g : Graph) (network done : List ℕ) (v : ℕ) : Type 0 where
  pub element : Listed network v
  pub new : Listed done v → ⊥
  pub sources : (u : ℕ) → IsWire g.wires u v → Listed network u → (IsFeedback g u v → ⊥) → Listed done u

-- v is ready, and nothing that is ready has a lesser key
pub record IsNext (g : Graph) (network done : List ℕ) (v : ℕ) : Type 0 where
  pub ready : IsReady g network done v
  pub least : (w : ℕ) → IsReady g network done w → KeyAtMost g v w

-- the rest of an order, where some are listed
abbrev pub IsOrderFrom : Graph → List ℕ → List ℕ → List ℕ → Type 0
IsOrderFrom g network done [] = (v : ℕ) → Listed network v → Listed done v
IsOrderFrom g network done (x ∷ xs) = IsNext g network done x × IsOrderFrom g network (done ++ x ∷ []) xs

-- all elements of the network, each once, and at each place the least key of what is ready there
abbrev pub IsOrder : Graph → List ℕ → List ℕ → Type 0
IsOrder g network xs = IsOrderFrom g network [] xs

-- an order for each network
abbrev pub AreOrders : Graph → List (List ℕ) → List (List ℕ) → Type 0
AreOrders g [] [] = Unit {0}
AreOrders g [] (xs ∷ orders) = ⊥
AreOrders g (network ∷ networks) [] = ⊥
AreOrders g (network ∷ networks) (xs ∷ orders) = IsOrder g network xs × AreOrders g networks orders

-- each network has exactly one order
abbrev pub HaveOneOrder : Type 0
HaveOneOrder = (g : Graph) (network : List ℕ) → IsGraph g → IsNetwork g network → (xs : List ℕ) × IsOrder g network xs × ((ys : List ℕ) → IsOrder g network ys → ys ≡ xs)
