-- Paths, stores and outcomes, which both meanings share.
use Rattle.std.specs.Prelude.{ℕ, zero, suc, ℤ, pos, bit_and, bit_or, Bool, true, false, not, ◌&&◌, List, [], ◌∷◌, Option, Some, None, nat_eq, if◌then◌else◌}
use Rattle.std.specs.List.{list_all, list_any}
use Rattle.std.specs.Str.{bytes_eq}
use Rattle.plcx_types.specs.declared.fault.Fault.{Fault}
use Rattle.plcx_types.specs.declared.ty.Ty.TheVariants as ty
use Rattle.plcx_types.specs.Name.{in_lower_case}
use Rattle.plcx_types.specs.Reserved.{is_own}
use Rattle.plcx_funcs.specs.Applied.{is_zero, both_bits, turned}

-- names without case, the innermost first: the leaf x of the instance at p is x ∷ p
abbrev pub Path : Type 0
Path = List (List ℕ)

-- the same names in the same order
abbrev pub same_path : Path → Path → Bool
same_path [] [] = true
same_path [] (y ∷ q) = false
same_path (x ∷ p) [] = false
same_path (x ∷ p) (y ∷ q) = bytes_eq x y && same_path p q

-- no name on it is the compiler's own
abbrev pub is_declared : Path → Bool
is_declared p = list_all (λ name. not (is_own name)) p

-- a function that is changed at one place, where places are compared so
abbrev pub changed : {A : Type 0} → (A → A → Bool) → (A → ℤ) → A → ℤ → A → ℤ
changed same f x v y = if same y x then v else f y

-- truth values are the numbers 0 and 1
abbrev pub is_true : ℤ → Bool
is_true n = not (is_zero n)

-- the number of a truth value
abbrev pub truth : Bool → ℤ
truth b = if b then pos 1 else pos 0

-- AND of two truth values
abbrev pub and_of : ℤ → ℤ → ℤ
and_of = both_bits bit_and

-- OR of two truth values
abbrev pub or_of : ℤ → ℤ → ℤ
or_of = both_bits bit_or

-- NOT of a truth value
abbrev pub not_of : ℤ → ℤ
not_of = turned ty.Bool

-- under NOT, or as it is
abbrev pub not_if : Bool → ℤ → ℤ
not_if true n = not_of n
not_if false n = n

-- a store after a write of one leaf
abbrev pub put : (Path → ℤ) → Path → ℤ → Path → ℤ
put s p v q = changed same_path s p v q

-- what an element remembers between scans: the value at its edge, or an output that feeds back
pub data Memory : Type 0 where
  AtEdge : ℕ → Memory
  AtOutput : ℕ → List ℕ → Memory

-- two memories of one instance are the same: numbers are equal, and pins but for case
abbrev pub same_memory : Memory → Memory → Bool
same_memory (AtEdge i) (AtEdge j) = nat_eq i j
same_memory (AtEdge i) (AtOutput j pin) = false
same_memory (AtOutput i pin) (AtEdge j) = false
same_memory (AtOutput i pin) (AtOutput j other) = nat_eq i j && bytes_eq (in_lower_case pin) (in_lower_case other)

-- the memories of all instances after a write of one
abbrev pub put_memory : (Path → Memory → ℤ) → Path → Memory → ℤ → Path → Memory → ℤ
put_memory m p k v q j = if same_path q p && same_memory j k then v else m q j

-- why a scan stops before its end
pub data Stop : Type 0 where
  Faulted : Fault → Stop
  OutOfTurns : Stop

-- How a piece of a scan comes out, over what outlives it, G, and what is local, L. A step that has no meaning is stuck.
pub data Outcome (G L : Type 0) : Type 0 where
  Ended : G → L → Outcome G L
  Stopped : Stop → G → Outcome G L
  Stuck : Outcome G L

-- one piece, and what follows where it ended
abbrev pub then_do : {G L K : Type 0} → Outcome G L → (G → L → Outcome G K) → Outcome G K
then_do (Ended g l) go = go g l
then_do (Stopped s g) go = Stopped s g
then_do Stuck go = Stuck

-- one turn of the budget, if one is left
abbrev pub spend : {G L : Type 0} → ℕ → G → (ℕ → Outcome G L) → Outcome G L
spend zero g go = Stopped OutOfTurns g
spend (suc n) g go = go n

-- what there is, if there is something; else there is no step
abbrev pub found : {A G L : Type 0} → Option A → (A → Outcome G L) → Outcome G L
found None go = Stuck
found (Some x) go = go x

-- where a body is evaluated: the path of its instance, and the leaf that each of its in-outs stands for
pub record Site : Type 0 where
  pub path : Path
  pub bound : List ℕ → Path

-- a program: it has no in-outs
abbrev pub top : Site
top = record { path = []; bound = λ name. [] }

-- no name stands twice
abbrev pub are_distinct : List (List ℕ) → Bool
are_distinct [] = true
are_distinct (x ∷ xs) = not (list_any (bytes_eq x) xs) && are_distinct xs

-- no number stands twice
abbrev pub all_differ : List ℕ → Bool
all_differ [] = true
all_differ (n ∷ ns) = not (list_any (nat_eq n) ns) && all_differ ns
