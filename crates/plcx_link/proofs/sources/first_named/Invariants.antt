use Rattle.std.proofs.Common.{◌≡◌, drop}
use Rattle.std.specs.List.{position_from}
use Rattle.plcx_rules.specs.Sources.{has_name}
use Rattle.plcx_link.specs.Outputs.{is_only}
use Rattle.plcx_link.proofs.sources.first_named.Given as goal

-- the first of those that are left is the first of all
abbrev pub invariant-loop-i : goal.invariant-loop-i
invariant-loop-i l = record {
  only : l.only ≡ is_only l.outputs;
  rest : position_from (has_name l.function l.outputs l.name) l.i (drop l.i l.outputs) ≡ position_from (has_name l.function l.outputs l.name) 0 l.outputs;
}
