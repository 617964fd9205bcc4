use Rattle.std.proofs.Common.{◌≡◌, drop, map}
use Rattle.std.specs.List.{list_any}
use Rattle.plcx_unit.specs.Pieces.{is_lacking}
use Rattle.plcx_unit.proofs.calls.some_lacks.Given as goal

abbrev pub invariant-loop-name : goal.invariant-loop-name
invariant-loop-name l = list_any (is_lacking l.names) (map (λ s. s.now) (drop l.name-index l.in_outs)) ≡ list_any (is_lacking l.names) (map (λ s. s.now) l.in_outs)
