use Rattle.std.proofs.Common.{◌++◌, map, subst}
use Rattle.std.proofs.lemmas.List.{take_all}
use Rattle.plcx_drawn.specs.Shown.{shown_port}
use Rattle.plcx_tables.specs.Named.{MemoriesTold}
use Rattle.plcx_tables.specs.Owned.{places_of, outputs_of}
use Rattle.plcx_tables.proofs.Listed.{fed_more}
use Rattle.plcx_tables.proofs.own.with_fed.Goals as goal

pub loop-port-preserved : goal.loop-port-preserved
loop-port-preserved c = λ before told.
    let after = c.in_ok-all.all in
    fed_more (MemoriesTold after.numbers.entries after.count) c.args.id before c.args.fed.now c.loop-port.port-index _ c.loop-port-test.true (c.in_ok-all.ensures _ (c.loop-port.invariant before told))

pub returns : goal.returns
returns c = λ before told.
    let all = c.loop-port.all in
    subst (λ ports. MemoriesTold all.numbers.entries all.count (places_of (before ++ outputs_of c.args.id (map shown_port ports)))) (take_all c.loop-port.port-index c.args.fed.now c.loop-port-test.false) (c.loop-port.invariant before told)
