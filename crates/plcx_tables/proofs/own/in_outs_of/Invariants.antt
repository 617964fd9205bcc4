use Rattle.std.proofs.Common.{◌≡◌, map, take}
use Rattle.plcx_prepare.specs.Called.{key_of}
use Rattle.plcx_tables.specs.Telling.{shown}
use Rattle.plcx_tables.specs.Owned.{in_outs_of}
use Rattle.plcx_tables.proofs.own.in_outs_of.Given as goal

abbrev pub invariant-loop-variable : goal.invariant-loop-variable
invariant-loop-variable l = map key_of l.names.items ≡ in_outs_of (map shown (take l.variable-index l.variables))
