use Rattle.std.proofs.Common.{◌++◌, ◌∷◌, [], List, length, pos, take, ◌∙◌, ◌+◌, ap, sym, subst, refl, ap₂, arith, rules}
use Rattle.plcx_state.specs.Layouts.{Laid}
use Rattle.plcx_scan.specs.declared.event.Entry.TheVariants.{Scan}
use Rattle.plcx_scan.specs.Events.{Event, meant_events, last_at_end}
use Rattle.plcx_scan.specs.Entries.{count_all, events_of}
use Rattle.plcx_scan.specs.Rows.{shown_numbers, meant_lines}
use Rattle.plcx_scan.specs.Sides.{BringsAll, HasLines}
use Rattle.plcx_scan.proofs.Entries.{all_events, event_here, inputs_fit, others_left}
use Rattle.plcx_scan.proofs.Runs.{time_next, rows_next, brings_next, has_next, some_brought, on_err, follow_next, pushed_lines}
use Rattle.plcx_scan.proofs.running.run.Goals as goal

pub loop-entry-init : goal.loop-entry-init
loop-entry-init g c = record {
  shown = search rules;
  left = record {
    events_are = sym c.events.view_is ∙ ap₂ events_of (sym c.deref-entry-items.ensures.value) (sym c.as_slice-rest.ensures.value);
    counted = ap count_all c.deref-entry-items.ensures.value ∙ c.events.invariant ∙ ap length (sym c.as_slice-rest.ensures.value);
  };
  machine = refl;
  laid = refl;
  follow = c.requires;
  meaning = λ h s. s;
  lines = λ h s. ap meant_lines c.new-rows.ensures.items;
  time = refl;
  rows = rw c.new-rows.ensures.items tt;
}

pub split_at-requires : goal.split_at-requires
split_at-requires g c =
    inputs_fit c.args.events.now c.deref-entry-items.result.now c.loop-entry.rest.now c.loop-entry.entry-index (Scan (pos 0) 0) c.loop-entry-test.true c.loop-entry.invariant.left c.count.result c.count.ensures

pub row_after-requires-clause-event : goal.row_after-requires-clause-event
row_after-requires-clause-event g c =
    let at = event_here c.args.events.now c.deref-entry-items.result.now c.loop-entry.rest.now c.loop-entry.entry-index (Scan (pos 0) 0) c.loop-entry-test.true c.loop-entry.invariant.left
    c.count.result c.count.ensures c.split_at.result.0.now c.split_at.ensures.front in
    (follow_next _ _ c.args.events.now c.loop-entry.entry-index _ at.there at.is c.loop-entry.invariant.follow).0

pub returns-in_err-row-clause-stopped : goal.returns-in_err-row-clause-stopped
returns-in_err-row-clause-stopped g c =
    let at = event_here c.args.events.now c.deref-entry-items.result.now c.loop-entry.rest.now c.loop-entry.entry-index (Scan (pos 0) 0) c.loop-entry-test.true c.loop-entry.invariant.left
    c.count.result c.count.ensures c.split_at.result.0.now c.split_at.ensures.front in
    let inv = c.loop-entry.invariant in
    let there = at.there in
    let m = g.S.Side.machine c.args.side.now in
    let stands = g.S.Side.stands_for in
    let leaves = ap (λ (l : Laid). l.leaves) inv.laid in
    on_err c.from_residual-in_err-row.result _
    (some_brought m c.args.turns (g.S.Side.laid c.args.side.now).leaves c.args.events.now (c.loop-entry.entry-index + 1) (omega arith) (stands c.args.side.now) (stands c.row_after.new.side)
    (brings_next m _ inv.machine c.args.turns _ _ leaves c.args.events.now c.loop-entry.entry-index _ there at.is
    (stands c.args.side.now) (stands c.loop-entry.side) (stands c.row_after.new.side) inv.meaning c.row_after.ensures.meaning))

pub returns-in_err-push-clause-stopped : goal.returns-in_err-push-clause-stopped
returns-in_err-push-clause-stopped g c =
    let at = event_here c.args.events.now c.deref-entry-items.result.now c.loop-entry.rest.now c.loop-entry.entry-index (Scan (pos 0) 0) c.loop-entry-test.true c.loop-entry.invariant.left
    c.count.result c.count.ensures c.split_at.result.0.now c.split_at.ensures.front in
    let inv = c.loop-entry.invariant in
    let there = at.there in
    let m = g.S.Side.machine c.args.side.now in
    let stands = g.S.Side.stands_for in
    let leaves = ap (λ (l : Laid). l.leaves) inv.laid in
    on_err c.from_residual-in_err-push.result _
    (some_brought m c.args.turns (g.S.Side.laid c.args.side.now).leaves c.args.events.now (c.loop-entry.entry-index + 1) (omega arith) (stands c.args.side.now) (stands c.row_after.new.side)
    (brings_next m _ inv.machine c.args.turns _ _ leaves c.args.events.now c.loop-entry.entry-index _ there at.is
    (stands c.args.side.now) (stands c.loop-entry.side) (stands c.row_after.new.side) inv.meaning c.row_after.ensures.meaning))

pub loop-entry-preserved : goal.loop-entry-preserved
loop-entry-preserved g c =
    let at = event_here c.args.events.now c.deref-entry-items.result.now c.loop-entry.rest.now c.loop-entry.entry-index (Scan (pos 0) 0) c.loop-entry-test.true c.loop-entry.invariant.left
    c.count.result c.count.ensures c.split_at.result.0.now c.split_at.ensures.front in
    let inv = c.loop-entry.invariant in
    let after = c.row_after.ensures in
    let made = c.in_ok-row.ensures in
    let m = g.S.Side.machine c.args.side.now in
    let stands = g.S.Side.stands_for in
    let now = ap (λ (l : Laid). l.leaves) after.laid in
    let leaves = ap (λ (l : Laid). l.leaves) inv.laid in
    record {
      shown = inv.shown ∙ ap shown_numbers (sym now);
      left = others_left c.args.events.now c.deref-entry-items.result.now c.loop-entry.rest.now c.loop-entry.entry-index (Scan (pos 0) 0) c.loop-entry-test.true inv.left
          c.count.result c.count.ensures c.split_at.result.1.now c.split_at.ensures.back;
      machine = after.machine ∙ inv.machine;
      laid = after.laid ∙ inv.laid;
      follow = rw (after.laid, after.time) (follow_next _ _ c.args.events.now c.loop-entry.entry-index _ at.there at.is inv.follow).1;
      meaning = brings_next m _ inv.machine c.args.turns _ _ leaves c.args.events.now c.loop-entry.entry-index _ at.there at.is
          (stands c.args.side.now) (stands c.loop-entry.side) (stands c.row_after.new.side) inv.meaning after.meaning;
      lines = pushed_lines m c.args.turns (meant_events (g.S.Side.laid c.args.side.now).leaves (take (c.loop-entry.entry-index + 1) c.args.events.now)) (stands c.args.side.now) c.push.new.self.items (c.loop-entry.rows.items ++ c.in_ok-row.row ∷ []) c.in_ok-push.ensures.items
          (has_next m _ inv.machine c.args.turns _ _ leaves c.args.events.now c.loop-entry.entry-index _ at.there at.is
          (stands c.args.side.now) (stands c.loop-entry.side) c.loop-entry.rows.items c.in_ok-row.row inv.meaning inv.lines made.line);
      time = time_next _ c.args.events.now c.loop-entry.entry-index _ at.there at.is _ _ inv.time after.time;
      rows = rows_next (g.S.Side.laid c.args.side.now).leaves (g.S.Side.laid c.loop-entry.side).leaves leaves c.loop-entry.rows.items c.push.new.self.items c.in_ok-row.row c.in_ok-push.ensures.items inv.rows made.row;
    }

pub returns-clause-lines : goal.returns-clause-lines
returns-clause-lines g c =
    let inv = c.loop-entry.invariant in
    let m = g.S.Side.machine c.args.side.now in
    let all = all_events c.args.events.now c.events.inside.entries.items c.deref-entry-items.result.now c.events.inside.inputs.items c.loop-entry.entry-index c.events.view_is c.deref-entry-items.ensures.value
    c.loop-entry.auto.entry-index-end c.loop-entry-test.false in
    pushed_lines m c.args.turns (meant_events (g.S.Side.laid c.args.side.now).leaves c.args.events.now) (g.S.Side.stands_for c.args.side.now) c.from_vec.result c.loop-entry.rows.items c.from_vec.ensures
    (subst (λ (es : List Event). HasLines m c.args.turns (meant_events (g.S.Side.laid c.args.side.now).leaves es) (g.S.Side.stands_for c.args.side.now) (meant_lines c.loop-entry.rows.items)) all inv.lines)

pub returns-clause-meaning : goal.returns-clause-meaning
returns-clause-meaning g c =
    let all = all_events c.args.events.now c.events.inside.entries.items c.deref-entry-items.result.now c.events.inside.inputs.items c.loop-entry.entry-index c.events.view_is c.deref-entry-items.ensures.value
    c.loop-entry.auto.entry-index-end c.loop-entry-test.false in
    subst (λ (es : List Event). BringsAll (g.S.Side.machine c.args.side.now) c.args.turns (meant_events (g.S.Side.laid c.args.side.now).leaves es) (g.S.Side.stands_for c.args.side.now) (g.S.Side.stands_for c.loop-entry.side)) all
    c.loop-entry.invariant.meaning

pub returns-clause-time : goal.returns-clause-time
returns-clause-time g c =
    c.loop-entry.invariant.time
    ∙ ap (last_at_end (g.S.Side.last c.args.side.now))
    (all_events c.args.events.now c.events.inside.entries.items c.deref-entry-items.result.now c.events.inside.inputs.items c.loop-entry.entry-index c.events.view_is c.deref-entry-items.ensures.value
    c.loop-entry.auto.entry-index-end c.loop-entry-test.false)
