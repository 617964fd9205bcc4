use Rattle.std.proofs.Common.{◌∙◌}
use Rattle.plcx_text_program.proofs.Leading.{in_pins, not_in_pins}
use Rattle.plcx_text_program.proofs.numbers.part_in_pins.Goals as goal

pub returns-in-None : goal.returns-in-None
returns-in-None c = λ unit.
    let found = rw c.in-None.is at c.pin_named.ensures in
    not_in_pins unit c.args.name.now c.args.pins.now c.no_part.result found (c.no_part.ensures.leaf ∙ c.in_ok-leaf.ensures) c.no_part.ensures.ty c.no_part.ensures.formal

pub returns-in-Some : goal.returns-in-Some
returns-in-Some c = λ unit.
    let found = rw c.in-Some.is at c.pin_named.ensures in
    in_pins unit c.args.name.now c.args.pins.now c.in-Some.pin.now c.pin_part.result found (c.pin_part.ensures.leaf ∙ c.in_ok-leaf.ensures) c.pin_part.ensures.ty c.pin_part.ensures.formal
