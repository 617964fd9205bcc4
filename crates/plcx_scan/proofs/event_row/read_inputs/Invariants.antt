use Rattle.std.proofs.Common.{◌≡◌, ◌+◌, ◌++◌, List, drop, option_map}
use Rattle.plcx_scan.specs.declared.event.Input.{Input}
use Rattle.plcx_scan.specs.ReadFiles.{inputs_of}
use Rattle.plcx_scan.proofs.event_row.read_inputs.Given as goal

abbrev pub invariant-loop-i : goal.invariant-loop-i
invariant-loop-i l =
    option_map (λ (is : List Input). l.inputs.items ++ is) (inputs_of (drop l.i l.columns) (drop (l.i + 2) l.row))
    ≡ option_map (λ (is : List Input). l.fn.inputs.items ++ is) (inputs_of l.columns (drop 2 l.row))
