use Rattle.std.proofs.Common.{◌≡◌, drop, map}
use Rattle.std.specs.List.{position_from}
use Rattle.plcx_std.specs.Pins.{Pin, shown}
use Rattle.plcx_rules.specs.Texts.{same_name}
use Rattle.plcx_tables.proofs.fitting.pin_place.Given as goal

abbrev pub invariant-loop-place : goal.invariant-loop-place
invariant-loop-place l = position_from (λ (p : Pin). same_name p.name l.name) l.place (map shown (drop l.place l.pins)) ≡ position_from (λ (p : Pin). same_name p.name l.name) 0 (map shown l.pins)
