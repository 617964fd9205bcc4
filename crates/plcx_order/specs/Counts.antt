-- What `order` counts and keeps: connections that are waited for, and elements in lists. Only proofs are served by it.
use Rattle.std.specs.Prelude.{◌≡◌, ℕ, zero, suc, ◌+◌, ◌<◌, ◌≤◌, ◌&&◌, ◌⊎◌, ◌++◌, Bool, true, false, not, List, [], ◌∷◌, Option, Some, None, length, get_or, slice_index, nat_eq, sum_by}
use Rattle.std.specs.List.{All}
use Rattle.std.specs.List.Sorted.{IsPermutation}
use Rattle.std.specs.Ordering.{is_lt, nat_cmp, ordering_then}
use Rattle.std.specs.declared.cmp.Ordering.{Ordering}
use Rattle.plcx_model.specs.declared.source.Wire.{Wire}
use Rattle.plcx_model.specs.Graph.{Graph, TakesPart, takes_part, elements, key_at, from_at, to_at}
use Rattle.plcx_model.specs.Networks.{Listed}
use Rattle.plcx_model.specs.Feedback.{IsFeedback}
use Rattle.plcx_model.specs.Orders.{IsOrderFrom}
use Rattle.plcx_order.specs.declared.ready.Entry.{Entry}
use Rattle.plcx_order.specs.Ranks.{rank_of, ranks_cmp}

abbrev pub bit : Bool → ℕ
bit true = 1
bit false = 0

-- 1 where two numbers are equal
abbrev pub one : ℕ → ℕ → ℕ
one a b = bit (nat_eq a b)

-- how many numbers below k pass a test
abbrev pub count_below : ℕ → (ℕ → Bool) → ℕ
count_below zero p = 0
count_below (suc k) p = bit (p k) + count_below k p

abbrev pub is_awaited : List Bool → ℕ → Bool
is_awaited awaited i = get_or awaited i false

-- how many of the first k connections that wait lead to v
abbrev pub incoming : List Wire → List Bool → ℕ → ℕ → ℕ
incoming ws awaited k v = count_below k (λ i. nat_eq (to_at ws i) v && is_awaited awaited i)

-- for each element, how many of the first k connections wait
pub record IsCounted (n : ℕ) (ws : List Wire) (k : ℕ) (awaited : List Bool) (count : List ℕ) : Type 0 where
  pub opens : length awaited ≡ k
  pub counts : length count ≡ n
  pub each : (v : ℕ) → v < n → slice_index count v ≡ incoming ws awaited k v

-- 1 where the answer is that element
abbrev pub came : Option ℕ → ℕ → ℕ
came None w = 0
came (Some v) w = one v w

-- entries in their order
abbrev pub entry_cmp : Entry → Entry → Ordering
entry_cmp a b = ordering_then (ranks_cmp a.rank b.rank) (nat_cmp a.element b.element)

-- a list is another with one more entry, and none of the others is less
pub record TakesLeast (old : List Entry) (x : Entry) (new : List Entry) : Type 0 where
  pub same : IsPermutation old (x ∷ new)
  pub least : All (λ y. is_lt (entry_cmp y x) ≡ false) new

-- how often an element stands in a heap, or in a list
abbrev pub entries_of : List Entry → ℕ → ℕ
entries_of es v = sum_by (λ e. one e.element v) es

abbrev pub places_of : List ℕ → ℕ → ℕ
places_of [] v = 0
places_of (x ∷ xs) v = one x v + places_of xs v

-- an element of the network with its key
pub record IsEntry (g : Graph) (network : List ℕ) (e : Entry) : Type 0 where
  pub element : Listed network e.element
  pub rank : e.rank ≡ rank_of (key_at g e.element)

-- how many elements aren't listed
abbrev pub unlisted : ℕ → List ℕ → ℕ
unlisted n xs = count_below n (λ v. nat_eq (places_of xs v) 0)

-- of the first k connections, those are awaited that aren't marked and whose ends take part
pub record AreAwaited (g : Graph) (marks : List Bool) (k : ℕ) (awaited : List Bool) : Type 0 where
  pub each : (i : ℕ) → i < k → is_awaited awaited i ≡ (not (is_awaited marks i) && takes_part g (from_at g.wires i) && takes_part g (to_at g.wires i))

abbrev pub IsWholeCount : Graph → List Bool → List ℕ → Type 0
IsWholeCount g awaited count = IsCounted (elements g) g.wires (length g.wires) awaited count

-- what is awaited and counted, whatever was listed by now
pub record IsWaiting (g : Graph) (marks awaited : List Bool) (count : List ℕ) : Type 0 where
  pub counted : IsWholeCount g awaited count
  pub most : (i : ℕ) → i < length g.wires → is_awaited awaited i ≡ true → (is_awaited marks i ≡ false) × TakesPart g (from_at g.wires i) × TakesPart g (to_at g.wires i)

-- nothing of the network is listed
pub record IsUntouched (g : Graph) (marks awaited : List Bool) (network : List ℕ) : Type 0 where
  pub all : (i : ℕ) → i < length g.wires → Listed network (from_at g.wires i) → Listed network (to_at g.wires i) → is_awaited awaited i ≡ false → is_awaited marks i ≡ true

-- the connections out of other networks are awaited as before
pub record LeavesOthers (g : Graph) (network : List ℕ) (old new : List Bool) : Type 0 where
  pub all : (i : ℕ) → i < length g.wires → (Listed network (from_at g.wires i) → ⊥) → is_awaited new i ≡ is_awaited old i

-- an order so far: what waits, what is ready, what is listed
pub record IsListing (g : Graph) (network : List ℕ) (marks awaited : List Bool) (count : List ℕ) (ready : List Entry) (xs : List ℕ) : Type 0 where
  pub waiting : IsWaiting g marks awaited count
  pub into : (i : ℕ) → i < length g.wires → Listed network (to_at g.wires i) → is_awaited awaited i ≡ true → Listed network (from_at g.wires i)
  pub out_of : (i : ℕ) → i < length g.wires → Listed network (from_at g.wires i) → is_awaited awaited i ≡ true → Listed network (to_at g.wires i)
  pub unheard : (i : ℕ) → i < length g.wires → is_awaited awaited i ≡ true → (IsFeedback g (from_at g.wires i) (to_at g.wires i) → ⊥) × (Listed xs (from_at g.wires i) → ⊥)
  pub heard : (i : ℕ) → i < length g.wires → Listed network (from_at g.wires i) → Listed network (to_at g.wires i) → is_awaited awaited i ≡ false →
      IsFeedback g (from_at g.wires i) (to_at g.wires i) ⊎ Listed xs (from_at g.wires i)
  pub once : (v : ℕ) → Listed network v → entries_of ready v + places_of xs v ≡ one (slice_index count v) 0
  pub entries : All (IsEntry g network) ready
  pub so_far : (rest : List ℕ) → IsOrderFrom g network xs rest → IsOrderFrom g network [] (xs ++ rest)

-- what is awaited out of x leads into the network
abbrev pub LeadsInto : Graph → List ℕ → List Bool → ℕ → Type 0
LeadsInto g network awaited x = (i : ℕ) → i < length g.wires → from_at g.wires i ≡ x → is_awaited awaited i ≡ true → Listed network (to_at g.wires i)

-- what came to wait for nothing came into the heap
abbrev pub IsBalanced : Graph → List ℕ → List ℕ → List Entry → List Entry → Type 0
IsBalanced g old new ready more = (v : ℕ) → v < elements g → entries_of more v + one (slice_index old v) 0 ≡ entries_of ready v + one (slice_index new v) 0

-- the connections out of x from number k on aren't awaited any more
pub record HasHeard (ws : List Wire) (old new : List Bool) (x k : ℕ) : Type 0 where
  pub others : (i : ℕ) → i < length ws → (from_at ws i ≡ x → ⊥) → is_awaited new i ≡ is_awaited old i
  pub before : (i : ℕ) → i < k → is_awaited new i ≡ is_awaited old i
  pub heard : (i : ℕ) → i < length ws → k ≤ i → from_at ws i ≡ x → is_awaited new i ≡ false
