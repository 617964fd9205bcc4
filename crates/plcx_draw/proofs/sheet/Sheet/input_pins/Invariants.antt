use Rattle.std.proofs.Common.{◌≡◌, List, map, take}
use Rattle.plcx_drawn.specs.Shown.{shown_input_pin}
use Rattle.plcx_model.specs.declared.body.PinIn.{PinIn}
use Rattle.plcx_view.specs.Blocks.{input_pin}
use Rattle.plcx_draw.specs.Wired.{shown_wired}
use Rattle.plcx_draw.proofs.sheet.Sheet.input_pins.Given as goal

abbrev pub invariant-loop-wired : goal.invariant-loop-wired
invariant-loop-wired l = (all : List PinIn) → map shown_input_pin l.pins.items ≡ map (input_pin l.self.pous l.self.pou l.callee all) (map shown_wired (take l.wired-index l.inputs))
