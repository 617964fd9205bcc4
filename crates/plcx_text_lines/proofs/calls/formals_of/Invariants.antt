use Rattle.std.proofs.Common.{◌≡◌, ◌++◌, drop, map}
use Rattle.plcx_text_lines.specs.Added.{formals}
use Rattle.plcx_text_lines.proofs.calls.formals_of.Given as goal

abbrev pub invariant-loop-arg : goal.invariant-loop-arg
invariant-loop-arg l = map (λ s. s.now) l.names.items ++ formals (drop l.arg-index l.args) ≡ formals l.args
