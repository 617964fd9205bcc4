use Rattle.std.proofs.Common.{map, take}
use Rattle.plcx_tables.specs.Named.{NamesTold}
use Rattle.plcx_tables.specs.Owned.{variable_name}
use Rattle.plcx_tables.proofs.own.names_of.Given as goal

abbrev pub invariant-loop-variable : goal.invariant-loop-variable
invariant-loop-variable l = NamesTold l.names.numbers.entries l.names.count (map variable_name (take l.variable-index l.variables))
