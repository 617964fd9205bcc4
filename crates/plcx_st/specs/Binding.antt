-- How tightly operators bind.
use Rattle.std.specs.Prelude.{ℕ}
use Rattle.plcx_meaning.specs.Tree.{Operator, Or, Xor, And, Equal, NotEqual, Less, Greater, LessOrEqual, GreaterOrEqual, Plus, Minus, Times, Divide, Mod}

-- how tightly an operator binds
abbrev pub level : Operator → ℕ
level Or = 0
level Xor = 1
level And = 2
level Equal = 3
level NotEqual = 3
level Less = 4
level Greater = 4
level LessOrEqual = 4
level GreaterOrEqual = 4
level Plus = 5
level Minus = 5
level Times = 6
level Divide = 6
level Mod = 6

-- tighter than every operator: an operand
abbrev pub tightest : ℕ
tightest = 7
