use Rattle.std.proofs.Common.{◌≡◌, nat_eq, drop, map}
use Rattle.std.specs.List.{filter}
use Rattle.plcx_std.specs.Pins.{Pin, shown}
use Rattle.plcx_rules.specs.Callees.{BlockPin, role_place, pin_named, standard_pins}
use Rattle.plcx_names.proofs.pins.standard_pin.Given as goal

-- the pins that are left, as those of the block
abbrev pub invariant-loop-pin : goal.invariant-loop-pin
invariant-loop-pin l =
    let left = map (λ (p : Pin). let b : BlockPin = record { name = p.name; ty = p.ty } in b) (filter (λ (p : Pin). nat_eq (role_place p.role) (role_place l.role)) (map shown (drop l.pin-index l.pins))) in
    pin_named l.name left ≡ pin_named l.name (standard_pins l.role l.fn.kind)
