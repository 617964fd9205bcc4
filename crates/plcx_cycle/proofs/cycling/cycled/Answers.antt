use Rattle.std.proofs.Common.{sym, subst}
use Rattle.plcx_simulate.specs.Programs.{diagrams_in}
use Rattle.plcx_ticked.specs.Files.{IsWrongRow}
use Rattle.plcx_cycle.proofs.Owned.{owned, fresh, leaves_alike, cycles}
use Rattle.plcx_cycle.proofs.cycling.cycled.Goals as goal

pub ticked-requires-clause-leaves : goal.ticked-requires-clause-leaves
ticked-requires-clause-leaves g c =
    let d = diagrams_in c.args.checked.now in
    let laid = rw c.as_slice-instances.ensures at c.in_ok-layouts.ensures in
    let are = rw (c.as_slice-instances.ensures, c.deref.ensures.value) at c.in_ok-sides.ensures in
    rw (c.deref_mut.ensures.value, c.deref-2.ensures.value) (leaves_alike d c.args.plan.now c.in_ok-layouts.layouts.items c.in_ok-sides.sides.items c.requires.programs laid are)

pub ticked-requires-clause-time : goal.ticked-requires-clause-time
ticked-requires-clause-time g c =
    let d = diagrams_in c.args.checked.now in
    let laid = rw c.as_slice-instances.ensures at c.in_ok-layouts.ensures in
    let are = rw (c.as_slice-instances.ensures, c.deref.ensures.value) at c.in_ok-sides.ensures in
    rw c.deref_mut.ensures.value (fresh d c.args.plan.now c.in_ok-layouts.layouts.items c.in_ok-sides.sides.items c.requires.programs laid are)

pub returns-in-Ok-clause-ok : goal.returns-in-Ok-clause-ok
returns-in-Ok-clause-ok g c =
    let d = diagrams_in c.args.checked.now in
    let laid = rw c.as_slice-instances.ensures at c.in_ok-layouts.ensures in
    let are = rw (c.as_slice-instances.ensures, c.deref.ensures.value) at c.in_ok-sides.ensures in
    let plain = rw c.deref-2.ensures.value at c.in-Ok.ensures.plain in
    let ticked = rw (c.deref-2.ensures.value, c.deref_mut.ensures.value) at c.in-Ok.ensures.ok in
    cycles d c.args.plan.now c.in_ok-layouts.layouts.items c.in_ok-sides.sides.items c.requires.programs laid are (g.D.Desk.file c.args.desk.now c.args.run.now.ticks.now) c.args.run.now.turns c.in-Ok.text.items c.requires.names plain ticked

pub returns-in-Err-Read-clause-err : goal.returns-in-Err-Read-clause-err
returns-in-Err-Read-clause-err g c =
    let d = diagrams_in c.args.checked.now in
    let laid = rw c.as_slice-instances.ensures at c.in_ok-layouts.ensures in
    ((c.in_ok-layouts.layouts.items, owned d c.args.plan.now c.in_ok-layouts.layouts.items c.requires.programs laid), rw c.in-Err-Read.field-0-is at c.in-Err-Read.ensures.err)

pub returns-in-Err-Row-clause-err : goal.returns-in-Err-Row-clause-err
returns-in-Err-Row-clause-err g c =
    let d = diagrams_in c.args.checked.now in
    let laid = rw c.as_slice-instances.ensures at c.in_ok-layouts.ensures in
    let wrong = rw (c.in-Err-Row.field-0-is, c.deref-2.ensures.value) at c.in-Err-Row.ensures.err in (
      (c.in_ok-layouts.layouts.items, owned d c.args.plan.now c.in_ok-layouts.layouts.items c.requires.programs laid),
      subst (IsWrongRow (g.D.Desk.file c.args.desk.now c.args.run.now.ticks.now) c.args.plan.now c.in_ok-layouts.layouts.items) (sym c.in-Err-Row.row-is) wrong,
    )
