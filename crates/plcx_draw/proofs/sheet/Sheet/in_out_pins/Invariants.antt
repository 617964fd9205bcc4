use Rattle.std.proofs.Common.{◌≡◌, map, take}
use Rattle.plcx_drawn.specs.Shown.{shown_in_out_pin}
use Rattle.plcx_view.specs.Blocks.{in_out_pin}
use Rattle.plcx_draw.specs.Wired.{shown_wired}
use Rattle.plcx_draw.proofs.sheet.Sheet.in_out_pins.Given as goal

abbrev pub invariant-loop-wired : goal.invariant-loop-wired
invariant-loop-wired l = map shown_in_out_pin l.pins.items ≡ map (in_out_pin l.self.pous l.self.pou l.callee) (map shown_wired (take l.wired-index l.in_outs))
