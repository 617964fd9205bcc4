use Rattle.std.proofs.Common.{Some, option_map, sym, ap, ◌∙◌}
use Rattle.plcx_std.specs.declared.pin.StdPin.{StdPin}
use Rattle.plcx_std.specs.Pins.{shown}
use Rattle.plcx_conditions.specs.Known.{seen}
use Rattle.plcx_known.specs.Parts.{pin_variable}
use Rattle.plcx_known.proofs.Parts.{pin_parts}
use Rattle.plcx_known.proofs.seen.standard_part.Goals as goal

pub returns-in-None : goal.returns-in-None
returns-in-None c = λ unit.
    let found = rw c.in-None.is at c.pin_named.ensures in
    sym (pin_parts unit c.args.kind c.args.name.now c.pins.result.now c.pins.ensures ∙ ap (option_map (λ (p : StdPin). seen unit (pin_variable (shown p)))) (sym found))

pub returns-in-Some : goal.returns-in-Some
returns-in-Some c = λ unit.
    let found = rw c.in-Some.is at c.pin_named.ensures in
    ap Some (c.pin_seen.ensures unit)
    ∙ sym (pin_parts unit c.args.kind c.args.name.now c.pins.result.now c.pins.ensures ∙ ap (option_map (λ (p : StdPin). seen unit (pin_variable (shown p)))) (sym found))
