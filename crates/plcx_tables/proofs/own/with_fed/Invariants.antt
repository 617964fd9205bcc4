use Rattle.std.proofs.Common.{◌++◌, List, map, take}
use Rattle.plcx_meaning.specs.Base.{Memory}
use Rattle.plcx_drawn.specs.Shown.{shown_port}
use Rattle.plcx_tables.specs.Named.{MemoriesTold}
use Rattle.plcx_tables.specs.Owned.{places_of, outputs_of}
use Rattle.plcx_tables.proofs.own.with_fed.Given as goal

abbrev pub invariant-loop-port : goal.invariant-loop-port
invariant-loop-port l = (before : List Memory) → MemoriesTold l.initial.all.numbers.entries l.initial.all.count (places_of before) → MemoriesTold l.all.numbers.entries l.all.count (places_of (before ++ outputs_of l.id (map shown_port (take l.port-index l.fed))))
