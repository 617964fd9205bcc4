use Rattle.std.proofs.Common.{◌≡◌, ◌++◌, drop, map}
use Rattle.plcx_steps.specs.declared.program.Argument.{Argument}
use Rattle.plcx_text_lines.proofs.functions.types_of.Given as goal

abbrev pub invariant-loop-input : goal.invariant-loop-input
invariant-loop-input l = l.types.items ++ map (λ (a : Argument). a.ty) (drop l.input-index l.inputs) ≡ map (λ (a : Argument). a.ty) l.inputs
