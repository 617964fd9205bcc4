use Rattle.std.proofs.Common.{arith}
use Rattle.plcx_typing.proofs.Searching.{decided}
use Rattle.plcx_typing.proofs.closure.comes.Goals as goal

pub returns-clause-comes : goal.returns-clause-comes
returns-clause-comes c = λ e t h.
    decided c.args.flow.now.seeds.items c.args.flow.now.next.items c.args.count c.loop-done.search.marks.items c.loop-done.search.found.items c.loop-done.done c.requires.flow c.loop-done.invariant.search (omega (arith, c.loop-done-test.false, c.len.ensures, c.loop-done.search.found.ok.0)) c.loop-done.invariant.seeds e t h
