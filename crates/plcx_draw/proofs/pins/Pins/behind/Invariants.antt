use Rattle.std.proofs.Common.{◌≡◌, drop}
use Rattle.plcx_draw.specs.Pins.{shown_pins}
use Rattle.plcx_draw.proofs.pins.Pins.behind.Given as goal

abbrev pub invariant-loop-step : goal.invariant-loop-step
invariant-loop-step l = shown_pins l.pins ≡ drop l._step (shown_pins l.fn.self)
