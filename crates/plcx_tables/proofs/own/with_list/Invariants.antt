use Rattle.std.proofs.Common.{◌≡◌, ◌++◌, map, take}
use Rattle.plcx_meaning.specs.Diagram.{Project}
use Rattle.plcx_tables.specs.Telling.{shown, AreNamed}
use Rattle.plcx_tables.proofs.Listed.{told_in}
use Rattle.plcx_tables.proofs.own.with_list.Given as goal

abbrev pub invariant-loop-one : goal.invariant-loop-one
invariant-loop-one l = (project : Project) → AreNamed project l.named → map shown l.all.items ≡ map shown l.initial.all.items ++ map (told_in project l.pous l.list) (take l.one-index l.one-items)
