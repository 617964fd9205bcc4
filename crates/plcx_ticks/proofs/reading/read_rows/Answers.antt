use Rattle.std.proofs.Common.{◌≡◌, ◌∷◌, [], length, arith, sym}
use Rattle.plcx_ticks.proofs.TickFiles.{read_all, read_more, read_none}
use Rattle.plcx_ticks.proofs.reading.read_rows.Goals as goal

pub rows-preserved : goal.rows-preserved
rows-preserved c =
    let next : c.rows.records ≡ c.read.new.row ∷ c.read.new.self = rw c.if-branch.true at c.in_ok-read.ensures in
    let read = rw c.in-Some.is at c.in_ok-event.ensures in
    rw c.in_ok-push.ensures.items
    (read_more c.args.columns.now c.args.records.now c.rows.records c.rows.events.items c.rows.last c.rows.invariant c.read.new.row c.read.new.self next
    c.in-Some.event c.tick_after-last.result (sym read) c.tick_after-last.ensures)

pub returns-in_default-clause-err : goal.returns-in_default-clause-err
returns-in_default-clause-err c =
    let next : c.rows.records ≡ c.read.new.row ∷ c.read.new.self = rw c.if-branch.true at c.in_ok-read.ensures in
    let none = rw c.in_default.is at c.in_ok-event.ensures in (
      length c.rows.events.items,
      omega (arith, c.len.ensures, c.rows.events.ok.0),
      read_none c.args.columns.now c.args.records.now c.rows.records c.rows.events.items c.rows.last c.rows.invariant c.read.new.row c.read.new.self next (sym none),
    )

pub returns-clause-ok : goal.returns-clause-ok
returns-clause-ok c =
    let none : c.rows.records ≡ [] = rw c.if-branch.false at c.in_ok-read.ensures in
    read_all c.args.columns.now c.args.records.now c.rows.records c.rows.events.items c.rows.last c.rows.invariant none
