use Rattle.std.proofs.Common.{◌≡◌, ◌++◌, map, drop}
use Rattle.std.specs.List.{zip}
use Rattle.plcx_draw.specs.Pins.{shown_pins}
use Rattle.plcx_draw.specs.Wired.{shown_wired}
use Rattle.plcx_draw.proofs.wired.with_pins.Given as goal

abbrev pub invariant-loop-input : goal.invariant-loop-input
invariant-loop-input l = map shown_wired l.all.items ++ zip (drop l.input-index l.inputs) (shown_pins l.left) ≡ zip l.inputs (shown_pins l.pins)
