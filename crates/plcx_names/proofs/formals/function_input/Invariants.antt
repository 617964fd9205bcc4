use Rattle.std.proofs.Common.{◌≡◌, ◌-◌, map}
use Rattle.std.specs.List.{range_with_len}
use Rattle.plcx_rules.specs.Callees.{function_input, function_inputs, formal_named}
use Rattle.plcx_rules.specs.Forms.{class_of}
use Rattle.plcx_names.proofs.formals.function_input.Given as goal

-- the inputs that are left
abbrev pub invariant-loop-place : goal.invariant-loop-place
invariant-loop-place l = class_of (formal_named l.name (map (function_input l.func) (range_with_len l.place (l.count - l.place)))) ≡ class_of (formal_named l.name (function_inputs l.func l.count))
