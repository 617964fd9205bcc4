-- The place of a fault in tokens: what stands before it, and what is left from there on.
use Rattle.std.specs.Prelude.{◌≡◌, ◌⊎◌, ℕ, ◌≤◌, List, [], ◌∷◌, ◌++◌}
use Rattle.plcx_lex.specs.Token.{Token}
use Rattle.plcx_lex.specs.Terminal.{terminal}
use Rattle.plcx_lex.specs.declared.terminal.Terminal.TheVariants as t
use Rattle.plcx_st.specs.declared.tree.Unit as tree
use Rattle.plcx_st.specs.Grammar.{IsUnit}

-- what is wrong
pub data Fault : Type 0 where
  Syntax TooDeep : Fault

-- the tokens begin a unit whose depth is within the bound
abbrev pub Begins : ℕ → List Token → Type 0
Begins bound ts = (more : List Token) × (u : tree.Unit) × (d : ℕ) × (d ≤ bound) × IsUnit (ts ++ more) u d

-- the tokens begin a unit of any depth
abbrev pub BeginsDeep : List Token → Type 0
BeginsDeep ts = (more : List Token) × (u : tree.Unit) × (d : ℕ) × IsUnit (ts ++ more) u d

-- the tokens begin a unit, but none within the bound
abbrev pub BeginsTooDeep : ℕ → List Token → Type 0
BeginsTooDeep bound ts = BeginsDeep ts × (Begins bound ts → ⊥)

-- the tokens are a unit within the bound
abbrev pub IsFine : ℕ → List Token → Type 0
IsFine bound ts = (u : tree.Unit) × (d : ℕ) × (d ≤ bound) × IsUnit ts u d

-- the first token is a name, and the second a sign that tells what the name begins: a call or an assignment
abbrev pub IsTold : Token → Token → Type 0
IsTold w s = (terminal w ≡ t.Name) × ((terminal s ≡ t.Open) ⊎ (terminal s ≡ t.Assign))

-- a name stands last, and the token behind it tells what it begins
abbrev pub TellsLast : List Token → Token → Type 0
TellsLast front s = (before : List Token) × (w : Token) × (front ≡ before ++ w ∷ []) × IsTold w s

-- Behind what stands before, which begins a unit within the bound, a fault stands at the first token that is left, or at the end of the text.
pub data IsPlace (bound : ℕ) : List Token → List Token → Fault → Type 0 where
  -- no token is left, and what stands before is no unit
  at_end : {before : List Token} → Begins bound before → (IsFine bound before → ⊥) → IsPlace bound before [] Syntax
  -- with the next token no unit begins, of any depth
  no_unit : {before rest : List Token} {x : Token} → Begins bound before → (BeginsDeep (before ++ x ∷ []) → ⊥) → IsPlace bound before (x ∷ rest) Syntax
  -- with the next token a unit begins, but none within the bound
  too_deep : {before rest : List Token} {x : Token} → Begins bound before → BeginsTooDeep bound (before ++ x ∷ []) → (TellsLast before x → ⊥)
      → IsPlace bound before (x ∷ rest) TooDeep
  -- the same with a sign behind a name, which tells what the name begins: the name is the place
  told : {before rest : List Token} {w s : Token} → Begins bound (before ++ w ∷ []) → BeginsTooDeep bound (before ++ w ∷ s ∷ []) → IsTold w s
      → IsPlace bound before (w ∷ s ∷ rest) TooDeep

-- tokens have one place at most, with one fault
abbrev pub HasOnePlace : ℕ → Type 0
HasOnePlace bound =
    (before rest other others : List Token) (f g : Fault) → before ++ rest ≡ other ++ others → IsPlace bound before rest f → IsPlace bound other others g
    → (before ≡ other) × (rest ≡ others) × (f ≡ g)

-- a unit within the bound has none
abbrev pub FineHasNone : ℕ → Type 0
FineHasNone bound = (before rest : List Token) (f : Fault) → IsPlace bound before rest f → IsFine bound (before ++ rest) → ⊥

-- where the first of the tokens begins, or the text ends
abbrev pub start_of : List Token → ℕ → ℕ
start_of [] end = end
start_of (x ∷ xs) end = x.span.start
