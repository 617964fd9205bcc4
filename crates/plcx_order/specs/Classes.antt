-- What the walk of `networks` keeps. Only proofs are served by it.
use Rattle.std.specs.Prelude.{◌≡◌, ℕ, zero, suc, ◌+◌, ◌*◌, ◌-◌, ◌<◌, ◌≤◌, ◌⊎◌, ◌++◌, Bool, true, false, List, [], ◌∷◌, length, get_or, slice_index, nat_eq, pos}
use Rattle.std.specs.List.{All, Contains}
use Rattle.std.specs.Ordering.{nat_cmp, ordering_then}
use Rattle.std.specs.declared.cmp.Ordering.{Ordering}
use Rattle.plcx_model.specs.declared.source.Wire.{Wire}
use Rattle.plcx_model.specs.Graph.{Graph, TakesPart, PlaceBefore, elements, key_at, from_at, to_at}
use Rattle.plcx_model.specs.Paths.{IsWire, IsLink, Reaches}
use Rattle.plcx_model.specs.Networks.{Listed}
use Rattle.plcx_order.specs.declared.standing.Standing.{Standing}
use Rattle.plcx_order.specs.Ranks.{place_of, places_cmp}
use Rattle.plcx_order.specs.Counts.{count_below}

-- THE ELEMENTS BY THEIR PLACES

abbrev pub standing_of : Graph → ℕ → Standing
standing_of g v = record { place = place_of (key_at g v); element = v }

abbrev pub standing_at : List Standing → ℕ → Standing
standing_at standings k = get_or standings k (record { place = record { y = pos 0; x = pos 0; local_id = 0 }; element = 0 })

abbrev pub standing_cmp : Standing → Standing → Ordering
standing_cmp a b = ordering_then (places_cmp a.place b.place) (nat_cmp a.element b.element)

-- an element with its place
pub record IsStanding (g : Graph) (s : Standing) : Type 0 where
  pub element : s.element < elements g
  pub place : s.place ≡ place_of (key_at g s.element)

-- the first n elements with their places
pub record AreStandings (g : Graph) (n : ℕ) (standings : List Standing) : Type 0 where
  pub each : All (IsStanding g) standings
  pub whole : (v : ℕ) → v < n → Contains standings (standing_of g v)

-- LINKS AS CONNECTIONS IN BOTH DIRECTIONS

abbrev pub AreSound : Graph → List Wire → Type 0
AreSound g links = (i : ℕ) → i < length links → IsLink g (from_at links i) (to_at links i)

-- both directions are there for each of the first n connections whose ends take part
pub record AreLinks (g : Graph) (n : ℕ) (links : List Wire) : Type 0 where
  pub sound : AreSound g links
  pub whole : (i : ℕ) → i < n → TakesPart g (from_at g.wires i) → TakesPart g (to_at g.wires i) →
      IsWire links (from_at g.wires i) (to_at g.wires i) × IsWire links (to_at g.wires i) (from_at g.wires i)

-- NUMBERS OF NETWORKS

-- `number` has 0 for what isn't seen, else one more than the number of the network, whose first element is in `firsts`;
-- the links of what waits may lead to what isn't seen
pub record IsSpread (g : Graph) (number : List ℕ) (waits : ℕ → Type 0) (firsts : List ℕ) : Type 0 where
  pub count : length number ≡ elements g
  pub below : (v : ℕ) → slice_index number v ≤ length firsts
  pub part : (k : ℕ) → k < length firsts → TakesPart g (slice_index firsts k)
  pub first : (k : ℕ) → k < length firsts → slice_index number (slice_index firsts k) ≡ k + 1
  pub linked : (v : ℕ) → 0 < slice_index number v → Reaches (IsLink g) (slice_index firsts (slice_index number v - 1)) v
  pub met : (u v : ℕ) → IsLink g u v → 0 < slice_index number u → (slice_index number v ≡ slice_index number u) ⊎ waits u
  pub current : (u : ℕ) → waits u → (slice_index number u ≡ length firsts) × (u < elements g) × (0 < length firsts)
  pub least : (k v : ℕ) → k < length firsts → TakesPart g v → (slice_index number v ≡ 0) ⊎ (k < slice_index number v) → (v ≡ slice_index firsts k) ⊎ PlaceBefore g (slice_index firsts k) v

-- what waits while the links of u are gone over
abbrev pub Spreading : ℕ → List ℕ → ℕ → Type 0
Spreading u todo x = (x ≡ u) ⊎ Listed todo x

-- from number k on, the links of u lead to its network
abbrev pub IsDoneFrom : List Wire → List ℕ → ℕ → ℕ → Type 0
IsDoneFrom links number u k = (i : ℕ) → i < length links → k ≤ i → from_at links i ≡ u → slice_index number (to_at links i) ≡ slice_index number u

-- what is seen stays as it is
abbrev pub KeepsNumbers : List ℕ → List ℕ → Type 0
KeepsNumbers old new = (v : ℕ) → 0 < slice_index old v → slice_index new v ≡ slice_index old v

abbrev pub unseen : ℕ → List ℕ → ℕ
unseen n number = count_below n (λ v. nat_eq (slice_index number v) 0)

abbrev pub left_to_do : ℕ → List ℕ → List ℕ → ℕ
left_to_do n number todo = 2 * unseen n number + length todo

-- no more is left to do than before
abbrev pub NoMoreToDo : Graph → List ℕ → List ℕ → List ℕ → List ℕ → Type 0
NoMoreToDo g number todo number' todo' = left_to_do (elements g) number' todo' ≤ left_to_do (elements g) number todo

-- THE LISTS

abbrev pub append_if : Bool → List ℕ → ℕ → List ℕ
append_if true xs v = xs ++ v ∷ []
append_if false xs v = xs

-- the numbers below n that pass a test
abbrev pub members : (ℕ → Bool) → ℕ → List ℕ
members p zero = []
members p (suc n) = append_if (p n) (members p n) n

-- the elements below n that have a network's number
abbrev pub class_below : List ℕ → ℕ → ℕ → List ℕ
class_below number k n = members (λ v. nat_eq (slice_index number v) (k + 1)) n
