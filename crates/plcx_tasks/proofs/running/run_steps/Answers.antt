use Rattle.std.proofs.Common.{◌∙◌}
use Rattle.plcx_scan.proofs.Runs.{on_err}
use Rattle.plcx_tasks.proofs.Advancing.{set_length}
use Rattle.plcx_tasks.proofs.Stepping.{can_be_next, shown_is, layout_is, machines_are, laids_are, stopped, going_on, places_on, rows_on}
use Rattle.plcx_tasks.proofs.running.run_steps.Goals as goal

pub row_after-requires-clause-event : goal.row_after-requires-clause-event
row_after-requires-clause-event g c =
    let inv = c.loop-step.invariant in
    can_be_next g.S.Side.machine g.S.Side.laid g.S.Side.stands_for g.S.Side.last c.args.turns c.args.sides.now c.loop-step.sides c.args.steps.now c.loop-step.step-index c.step-item.result c.index-sides-i.result
    c.loop-step.rows.items c.loop-step-test.true c.step-item.is c.requires.within inv.long inv.going c.requires.follow

pub row_after-requires-clause-shown : goal.row_after-requires-clause-shown
row_after-requires-clause-shown g c =
    let inv = c.loop-step.invariant in
    shown_is g.S.Side.machine g.S.Side.laid g.S.Side.stands_for g.S.Side.last c.args.turns c.args.sides.now c.loop-step.sides c.args.steps.now c.loop-step.step-index c.step-item.result c.index-sides-i.result
    c.loop-step.rows.items c.loop-step-test.true c.step-item.is c.requires.within inv.long inv.going c.args.shown.now c.index-shown-i.result c.requires.shown c.index-shown-i.is

pub row_after-requires-clause-layout : goal.row_after-requires-clause-layout
row_after-requires-clause-layout g c =
    let inv = c.loop-step.invariant in
    layout_is g.S.Side.machine g.S.Side.laid g.S.Side.stands_for g.S.Side.last c.args.turns c.args.sides.now c.loop-step.sides c.args.steps.now c.loop-step.step-index c.step-item.result c.index-sides-i.result
    c.loop-step.rows.items c.loop-step-test.true c.step-item.is c.requires.within inv.long inv.going c.requires.layout

pub returns-in_err-row-clause-stopped : goal.returns-in_err-row-clause-stopped
returns-in_err-row-clause-stopped g c =
    let inv = c.loop-step.invariant in
    on_err c.from_residual.result _
    (stopped g.S.Side.machine g.S.Side.laid g.S.Side.stands_for g.S.Side.last c.args.turns c.args.sides.now c.loop-step.sides c.args.steps.now c.loop-step.step-index c.step-item.result c.index-sides-i.result
    c.loop-step.rows.items c.loop-step-test.true c.step-item.is c.requires.within inv.long inv.going c.row_after.new.side
    (record { machine_is = c.row_after.ensures.machine; laid_is = c.row_after.ensures.laid; brought = c.row_after.ensures.meaning; time = c.row_after.ensures.time }))

pub returns-in_err-row-clause-machines : goal.returns-in_err-row-clause-machines
returns-in_err-row-clause-machines g c =
    let inv = c.loop-step.invariant in
    machines_are g.S.Side.machine g.S.Side.laid g.S.Side.stands_for g.S.Side.last c.args.turns c.args.sides.now c.loop-step.sides c.args.steps.now c.loop-step.step-index c.step-item.result c.index-sides-i.result
    c.loop-step.rows.items c.loop-step-test.true c.step-item.is c.requires.within inv.long inv.going c.row_after.new.side
    (record { machine_is = c.row_after.ensures.machine; laid_is = c.row_after.ensures.laid; brought = c.row_after.ensures.meaning; time = c.row_after.ensures.time })

pub returns-in_err-row-clause-laid : goal.returns-in_err-row-clause-laid
returns-in_err-row-clause-laid g c =
    let inv = c.loop-step.invariant in
    laids_are g.S.Side.machine g.S.Side.laid g.S.Side.stands_for g.S.Side.last c.args.turns c.args.sides.now c.loop-step.sides c.args.steps.now c.loop-step.step-index c.step-item.result c.index-sides-i.result
    c.loop-step.rows.items c.loop-step-test.true c.step-item.is c.requires.within inv.long inv.going c.row_after.new.side
    (record { machine_is = c.row_after.ensures.machine; laid_is = c.row_after.ensures.laid; brought = c.row_after.ensures.meaning; time = c.row_after.ensures.time })

pub returns-in_err-push-clause-stopped : goal.returns-in_err-push-clause-stopped
returns-in_err-push-clause-stopped g c =
    let inv = c.loop-step.invariant in
    on_err c.from_residual-in_err-push.result _
    (stopped g.S.Side.machine g.S.Side.laid g.S.Side.stands_for g.S.Side.last c.args.turns c.args.sides.now c.loop-step.sides c.args.steps.now c.loop-step.step-index c.step-item.result c.index-sides-i.result
    c.loop-step.rows.items c.loop-step-test.true c.step-item.is c.requires.within inv.long inv.going c.row_after.new.side
    (record { machine_is = c.row_after.ensures.machine; laid_is = c.row_after.ensures.laid; brought = c.row_after.ensures.meaning; time = c.row_after.ensures.time }))

pub returns-in_err-push-clause-machines : goal.returns-in_err-push-clause-machines
returns-in_err-push-clause-machines g c =
    let inv = c.loop-step.invariant in
    machines_are g.S.Side.machine g.S.Side.laid g.S.Side.stands_for g.S.Side.last c.args.turns c.args.sides.now c.loop-step.sides c.args.steps.now c.loop-step.step-index c.step-item.result c.index-sides-i.result
    c.loop-step.rows.items c.loop-step-test.true c.step-item.is c.requires.within inv.long inv.going c.row_after.new.side
    (record { machine_is = c.row_after.ensures.machine; laid_is = c.row_after.ensures.laid; brought = c.row_after.ensures.meaning; time = c.row_after.ensures.time })

pub returns-in_err-push-clause-laid : goal.returns-in_err-push-clause-laid
returns-in_err-push-clause-laid g c =
    let inv = c.loop-step.invariant in
    laids_are g.S.Side.machine g.S.Side.laid g.S.Side.stands_for g.S.Side.last c.args.turns c.args.sides.now c.loop-step.sides c.args.steps.now c.loop-step.step-index c.step-item.result c.index-sides-i.result
    c.loop-step.rows.items c.loop-step-test.true c.step-item.is c.requires.within inv.long inv.going c.row_after.new.side
    (record { machine_is = c.row_after.ensures.machine; laid_is = c.row_after.ensures.laid; brought = c.row_after.ensures.meaning; time = c.row_after.ensures.time })

pub loop-step-preserved : goal.loop-step-preserved
loop-step-preserved g c =
    let inv = c.loop-step.invariant in
    let made = c.in_ok-row.ensures in
    let pushed = c.in_ok-push.ensures.items in
    record {
      long = set_length c.loop-step.sides c.step-item.result.instance c.row_after.new.side ∙ inv.long;
      places = places_on g.S.Side.machine g.S.Side.laid g.S.Side.stands_for g.S.Side.last c.args.turns c.args.sides.now c.loop-step.sides c.args.steps.now c.loop-step.step-index c.step-item.result c.index-sides-i.result
          c.loop-step.rows.items c.loop-step-test.true c.step-item.is c.requires.within inv.long inv.going c.in_ok-row.row made.place c.push.new.self.items pushed inv.places;
      going = going_on g.S.Side.machine g.S.Side.laid g.S.Side.stands_for g.S.Side.last c.args.turns c.args.sides.now c.loop-step.sides c.args.steps.now c.loop-step.step-index c.step-item.result c.index-sides-i.result
          c.loop-step.rows.items c.loop-step-test.true c.step-item.is c.requires.within inv.long inv.going c.row_after.new.side (record { machine_is = c.row_after.ensures.machine; laid_is = c.row_after.ensures.laid; brought = c.row_after.ensures.meaning; time = c.row_after.ensures.time })
          c.in_ok-row.row made.place made.line c.push.new.self.items pushed;
      rows = rows_on g.S.Side.machine g.S.Side.laid g.S.Side.stands_for g.S.Side.last c.args.turns c.args.sides.now c.loop-step.sides c.args.steps.now c.loop-step.step-index c.step-item.result c.index-sides-i.result
          c.loop-step.rows.items c.loop-step-test.true c.step-item.is c.requires.within inv.long inv.going c.in_ok-row.row made.place made.values c.push.new.self.items pushed inv.rows;
    }
