use Rattle.std.proofs.Common.{◌*◌, ◌-◌}
use Rattle.plcx_typing.specs.Closure.{IsSearch, AreMarked}
use Rattle.plcx_typing.proofs.closure.comes.Given as goal

abbrev pub invariant-loop-done : goal.invariant-loop-done
invariant-loop-done l = record {
  search : IsSearch l.flow.seeds.items l.flow.next.items l.count l.search.marks.items l.search.found.items l.done;
  seeds : AreMarked l.search.marks.items l.flow.seeds.items;
}

abbrev pub decreases-loop-done : goal.decreases-loop-done
decreases-loop-done l = 14 * l.count - l.done
