-- The input pins of the code, as the definitions see them.
use Rattle.std.specs.Prelude.{List}
use Rattle.std.specs.List.{zip}
use Rattle.plcx_view.specs.Pins as view
use Rattle.plcx_view.specs.Pins.{pins_from}
use Rattle.plcx_draw.specs.declared.pins.Pin.{Pin}
use Rattle.plcx_draw.specs.declared.pins.Pins.{Pins}

-- a pin
abbrev pub shown_pin : Pin → view.Pin
shown_pin p = record { ty = p.ty; feeds = zip p.sources.now p.marks.now }

-- the pins from one of them on
abbrev pub shown_pins : Pins → List view.Pin
shown_pins p = pins_from p.types.now p.sources.now p.marks.now
