use Rattle.std.proofs.Common.{◌≡◌, ◌++◌, take}
use Rattle.plcx_scan.specs.Texts.{values_text}
use Rattle.plcx_scan.proofs.tracing.push_values.Given as goal

abbrev pub invariant-loop-value : goal.invariant-loop-value
invariant-loop-value l = l.text.items ≡ l.initial.text.items ++ values_text (take l.value-index l.values)
