use Rattle.std.proofs.Common.{◌≡◌, ◌+◌, ◌++◌, List, drop, option_map}
use Rattle.plcx_tasks.specs.declared.ticking.TaskInput.{TaskInput}
use Rattle.plcx_ticks.specs.ReadTicks.{inputs_of}
use Rattle.plcx_ticks.proofs.tick_row.read_inputs.Given as goal

abbrev pub invariant-loop-i : goal.invariant-loop-i
invariant-loop-i l =
    option_map (λ (is : List TaskInput). l.inputs.items ++ is) (inputs_of (drop l.i l.columns) (drop (l.i + 2) l.row)) ≡ inputs_of l.columns (drop 2 l.row)
