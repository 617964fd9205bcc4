-- What the walk of `feedback` keeps, and the tables that it goes by. Only proofs are served by it.
use Rattle.std.specs.Prelude.{◌≡◌, ℕ, ◌+◌, ◌*◌, ◌-◌, ◌<◌, ◌≤◌, ◌↔◌, List, length, get_or, slice_index, sum}
use Rattle.plcx_model.specs.Graph.{from_at, to_at, Graph, elements}
use Rattle.plcx_model.specs.Paths.{Reaches, IsWire}
use Rattle.plcx_model.specs.declared.source.Wire.{Wire}
use Rattle.plcx_order.specs.declared.walk.Place.{Place}
use Rattle.plcx_order.specs.declared.walk.Place.TheVariants.{Unseen, Open, Done}
use Rattle.plcx_order.specs.declared.walk.Walk.{Walk}

-- the connections out of u below n end with number k - 1; k is 0 where there are none
pub record IsLast (ws : List Wire) (n u k : ℕ) : Type 0 where
  pub most : k ≤ n
  pub own : 0 < k → from_at ws (k - 1) ≡ u
  pub none_after : (j : ℕ) → j < n → k ≤ j → from_at ws j ≡ u → ⊥

-- the walk's state, by functions
pub record State : Type 0 where
  pub place : ℕ → Place
  pub stack : ℕ → ℕ
  pub height : ℕ
  pub start : ℕ → ℕ
  pub starts : ℕ
  pub left : ℕ → ℕ
  pub todo : ℕ → ℕ
  pub todos : ℕ
  pub closed : ℕ

abbrev pub state_of : Walk → State
state_of w = record {
  place = λ v. get_or w.place.items v Unseen;
  stack = slice_index w.stack.items;
  height = length w.stack.items;
  start = slice_index w.starts.items;
  starts = length w.starts.items;
  left = slice_index w.left.items;
  todo = slice_index w.todo.items;
  todos = length w.todo.items;
  closed = length w.closed.items;
}

-- the block of place q on the stack isn't below that of place p
pub record NotAbove (s : State) (p q : ℕ) : Type 0 where
  pub all : (k : ℕ) → k < s.starts → s.start k ≤ p → s.start k ≤ q

-- done, in a component with at most that number
abbrev pub IsDoneBy : ℕ → Place → Type 0
IsDoneBy c Unseen = ⊥
IsDoneBy c (Open p) = ⊥
IsDoneBy c (Done d) = d ≤ c

-- what closing the places from b on as component c makes of a place
abbrev pub IsClosed : ℕ → ℕ → Place → Place → Type 0
IsClosed b c Unseen y = y ≡ Unseen
IsClosed b c (Open p) y = (p < b → y ≡ Open p) × (b ≤ p → y ≡ Done c)
IsClosed b c (Done d) y = y ≡ Done d

-- an element that wasn't seen becomes a block of its own, on top
pub record Opens (s t : State) (v : ℕ) : Type 0 where
  pub place_here : t.place v ≡ Open s.height
  pub place_else : (w : ℕ) → (w ≡ v → ⊥) → t.place w ≡ s.place w
  pub stack_here : t.stack s.height ≡ v
  pub stack_else : (p : ℕ) → p < s.height → t.stack p ≡ s.stack p
  pub height : t.height ≡ s.height + 1
  pub start_here : t.start s.starts ≡ s.height
  pub start_else : (k : ℕ) → k < s.starts → t.start k ≡ s.start k
  pub starts : t.starts ≡ s.starts + 1
  pub todo_here : t.todo s.todos ≡ s.height
  pub todo_else : (k : ℕ) → k < s.todos → t.todo k ≡ s.todo k
  pub todos : t.todos ≡ s.todos + 1
  pub left : (u : ℕ) → t.left u ≡ s.left u
  pub closed : t.closed ≡ s.closed

-- the blocks that begin above place q are no blocks any more
pub record Lowers (s t : State) (q : ℕ) : Type 0 where
  pub place : (v : ℕ) → t.place v ≡ s.place v
  pub stack : (r : ℕ) → t.stack r ≡ s.stack r
  pub height : t.height ≡ s.height
  pub some : 0 < t.starts
  pub fewer : t.starts ≤ s.starts
  pub start : (k : ℕ) → k < t.starts → t.start k ≡ s.start k
  pub gone : (k : ℕ) → t.starts ≤ k → k < s.starts → q < s.start k
  pub stop : 1 < t.starts → s.start (t.starts - 1) ≤ q
  pub left : (u : ℕ) → t.left u ≡ s.left u
  pub todo : (k : ℕ) → t.todo k ≡ s.todo k
  pub todos : t.todos ≡ s.todos
  pub closed : t.closed ≡ s.closed

-- the top block is closed
pub record Closes (n : ℕ) (s t : State) : Type 0 where
  pub starts : t.starts + 1 ≡ s.starts
  pub height : t.height ≡ s.start t.starts
  pub start : (k : ℕ) → k < t.starts → t.start k ≡ s.start k
  pub stack : (p : ℕ) → p < t.height → t.stack p ≡ s.stack p
  pub place : (v : ℕ) → v < n → IsClosed t.height s.closed (s.place v) (t.place v)
  pub left : (u : ℕ) → t.left u ≡ s.left u
  pub todo : (k : ℕ) → t.todo k ≡ s.todo k
  pub todos : t.todos ≡ s.todos
  pub closed : t.closed ≡ s.closed + 1

-- connection i leads to what is done, or from what is open to what is open in no lower block
pub data IsMet (ws : List Wire) (s : State) (i : ℕ) : Type 0 where
  closed : (d : ℕ) → s.place (to_at ws i) ≡ Done d → IsMet ws s i
  within : (p q : ℕ) → s.place (from_at ws i) ≡ Open p → s.place (to_at ws i) ≡ Open q → NotAbove s p q → IsMet ws s i

-- or it waits
pub data IsSettled (ws : List Wire) (s : State) (i : ℕ) : Type 0 where
  waits : i < s.left (from_at ws i) → IsSettled ws s i
  met : IsMet ws s i → IsSettled ws s i

pub record Good (n : ℕ) (ws : List Wire) (s : State) : Type 0 where
  -- the stack and the places agree
  pub inside : (p : ℕ) → p < s.height → s.stack p < n
  pub stands : (p : ℕ) → p < s.height → s.place (s.stack p) ≡ Open p
  pub placed : (v p : ℕ) → v < n → s.place v ≡ Open p → (p < s.height) × (s.stack p ≡ v)
  -- blocks lead to themselves and to those above
  pub leads : (p q : ℕ) → p < s.height → q < s.height → NotAbove s p q → Reaches (IsWire ws) (s.stack p) (s.stack q)
  pub settled : (i : ℕ) → i < length ws → IsSettled ws s i
  -- components that are done
  pub falls : (i c : ℕ) → i < length ws → s.place (from_at ws i) ≡ Done c → IsDoneBy c (s.place (to_at ws i))
  pub same : (u v c : ℕ) → u < n → v < n → s.place u ≡ Done c → s.place v ≡ Done c → Reaches (IsWire ws) u v
  pub fresh : (v c : ℕ) → v < n → s.place v ≡ Done c → c < s.closed
  -- the blocks
  pub rise : (k l : ℕ) → k ≤ l → l < s.starts → s.start k ≤ s.start l
  pub top : (k : ℕ) → k < s.starts → s.start k ≤ s.height
  pub bottom : 0 < s.starts → s.start 0 ≡ 0
  pub some : s.starts ≡ 0 → s.height ≡ 0
  -- the places with connections that wait
  pub listed : (p : ℕ) → p < s.height → ((k : ℕ) → k < s.todos → s.todo k ≡ p → ⊥) → s.left (s.stack p) ≡ 0
  pub todo_rise : (k l : ℕ) → k < l → l < s.todos → s.todo k < s.todo l
  pub todo_top : (k : ℕ) → k < s.todos → s.todo k < s.height
  -- the chains
  pub chained : (u : ℕ) → u < n → (s.left u ≤ length ws) × (0 < s.left u → from_at ws (s.left u - 1) ≡ u)

-- a walk over a graph
pub record IsUnderWay (g : Graph) (w : Walk) : Type 0 where
  pub places : length w.place.items ≡ (elements g)
  pub lefts : length w.left.items ≡ (elements g)
  pub good : Good (elements g) g.wires (state_of w)

-- what was seen stays so
abbrev pub KeepsSeen : ℕ → State → State → Type 0
KeepsSeen n s t = (v : ℕ) → v < n → t.place v ≡ Unseen → s.place v ≡ Unseen

-- what is left to do
abbrev pub work : Walk → ℕ
work w = 3 * sum w.left.items + length w.todo.items + length w.starts.items

-- of the first n connections: where each leads, and the one before it out of the same element
pub record IsTable (ws : List Wire) (n : ℕ) (before to : List ℕ) : Type 0 where
  pub befores : length before ≡ n
  pub tos : length to ≡ n
  pub last : (i : ℕ) → i < n → IsLast ws i (from_at ws i) (slice_index before i)
  pub into : (i : ℕ) → i < n → slice_index to i ≡ to_at ws i

-- the last of the first n connections out of each element
pub record AreLast (count_of : ℕ) (ws : List Wire) (n : ℕ) (last : List ℕ) : Type 0 where
  pub count : length last ≡ count_of
  pub each : (u : ℕ) → u < count_of → IsLast ws n u (slice_index last u)

abbrev pub IsWholeTable : Graph → List ℕ → List ℕ → Type 0
IsWholeTable g before to = IsTable g.wires (length g.wires) before to

abbrev pub AreWholeLast : Graph → List ℕ → Type 0
AreWholeLast g last = AreLast (elements g) g.wires (length g.wires) last

-- each element is done, in a component
pub record AreComponents (g : Graph) (places : List Place) : Type 0 where
  pub count : length places ≡ (elements g)
  pub done : (v : ℕ) → v < (elements g) → (c : ℕ) × (get_or places v Unseen ≡ Done c)
  pub one : (u v c d : ℕ) → u < (elements g) → v < (elements g) → get_or places u Unseen ≡ Done c → get_or places v Unseen ≡ Done d →
      Reaches (IsWire g.wires) u v → (c ≡ d) ↔ Reaches (IsWire g.wires) v u

-- the stack and the places agree
pub record Agree (place : List Place) (stack : List ℕ) : Type 0 where
  pub inside : (p : ℕ) → p < length stack → slice_index stack p < length place
  pub stands : (p : ℕ) → p < length stack → get_or place (slice_index stack p) Unseen ≡ Open p
  pub placed : (v p : ℕ) → v < length place → get_or place v Unseen ≡ Open p → (p < length stack) × (slice_index stack p ≡ v)

-- the places from a up to b are closed
abbrev pub IsClosedUpTo : ℕ → ℕ → ℕ → Place → Place → Type 0
IsClosedUpTo a b c Unseen y = y ≡ Unseen
IsClosedUpTo a b c (Open p) y = (p < a → y ≡ Open p) × (a ≤ p → p < b → y ≡ Done c) × (b ≤ p → y ≡ Open p)
IsClosedUpTo a b c (Done d) y = y ≡ Done d

-- what an element's place asks for
pub record Goes (s t : State) (v : ℕ) : Type 0 where
  pub unseen : s.place v ≡ Unseen → Opens s t v
  pub opened : (q : ℕ) → s.place v ≡ Open q → Lowers s t q
  pub done : (d : ℕ) → s.place v ≡ Done d → t ≡ s
