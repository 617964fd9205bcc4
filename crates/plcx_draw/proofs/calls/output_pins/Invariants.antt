use Rattle.std.proofs.Common.{◌≡◌, ◌++◌, List, map, drop}
use Rattle.plcx_drawn.specs.Shown.{shown_output_pin}
use Rattle.plcx_model.specs.declared.project.Pou.{Pou}
use Rattle.plcx_rules.specs.declared.callee.Callee.{Callee}
use Rattle.plcx_rules.specs.Callees.{output_formal}
use Rattle.plcx_view.specs.Blocks.{beside, output_pin}
use Rattle.plcx_draw.specs.Known.{shown_output}
use Rattle.plcx_draw.proofs.calls.output_pins.Given as goal

abbrev pub invariant-loop-i : goal.invariant-loop-i
invariant-loop-i l =
    (pous : List Pou) (c : Callee) → map shown_output l.formals ≡ map (output_formal pous c l.outputs) l.outputs
    → map shown_output_pin l.pins.items ++ map (output_pin pous c l.outputs) (beside (drop l.i l.outputs)) ≡ map (output_pin pous c l.outputs) (beside l.outputs)
