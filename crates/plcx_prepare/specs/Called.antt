-- What the code tells of an instance.
use Rattle.std.specs.Prelude.{ℕ, List, Vec, map}
use Rattle.std.specs.declared.alloc.Global.{Global}
use Rattle.plcx_meaning.specs.Diagram.{InOutPin}
use Rattle.plcx_steps.specs.declared.program.Operand.{Operand}
use Rattle.plcx_numbered.specs.Prepared as numbered
use Rattle.plcx_numbered.specs.Prepared.{Numbering, bound_variable}
use Rattle.plcx_prepare.specs.declared.numbers.Callee.{Callee}
use Rattle.plcx_prepare.specs.declared.numbers.Callee.TheVariants as callee

-- what an in-out of this name without case is bound to
abbrev pub bound_to : Numbering → List InOutPin → List ℕ → Operand
bound_to c bound key = c.operand (bound_variable bound key)

-- a name without case
abbrev pub key_of : Vec ℕ Global → List ℕ
key_of name = name.items

-- what an instance calls
abbrev pub shown_callee : Callee → numbered.Callee
shown_callee (callee.Block kind leaf) = numbered.Block kind leaf
shown_callee (callee.User pou leaves memories in_outs) = numbered.User pou leaves memories (map key_of in_outs.now)
