use Rattle.std.proofs.Common.{◌∙◌, ℕ, List, length, map, sym, ap, subst}
use Rattle.std.proofs.lemmas.List.{length-map}
use Rattle.plcx_types.specs.Lists.{Each}
use Rattle.plcx_scan.specs.Events.{Event, CanFollow}
use Rattle.plcx_scan.proofs.Runs.{on_err}
use Rattle.plcx_tasks.specs.declared.rows.TaskRow.{TaskRow}
use Rattle.plcx_tasks.specs.Tasks.{own_events}
use Rattle.plcx_tasks.specs.Orders.{AreRowPlaces}
use Rattle.plcx_tasks.specs.Runs.{place_of, HaveLines}
use Rattle.plcx_tasks.specs.Steps.{own_in, AreSteps, IsEventWithin}
use Rattle.plcx_tasks.proofs.Owned.{own_steps, row_places, steps_within}
use Rattle.plcx_tasks.proofs.Following.{own_follow, events_within}
use Rattle.plcx_tasks.proofs.Stepping.{lines_as, brought_as, some_as, last_as}
use Rattle.plcx_tasks.proofs.running.run_tasks.Goals as goal

pub schedule-requires-clause-inputs : goal.schedule-requires-clause-inputs
schedule-requires-clause-inputs g c =
    subst (λ (n : ℕ). Each (IsEventWithin n) c.args.events.now) (length-map c.args.sides.now g.S.Side.laid ∙ c.requires.sides)
    (events_within (map g.S.Side.laid c.args.sides.now) c.requires.events.from c.args.events.now c.requires.events.ticks)

pub run_steps-requires-clause-within : goal.run_steps-requires-clause-within
run_steps-requires-clause-within g c =
    let are = subst (AreSteps c.args.plan.now c.args.events.now) (sym c.deref-2.ensures.value) c.in_ok-steps.ensures in
    steps_within c.args.plan.now c.args.events.now c.deref-2.result.now are (length c.args.sides.now) c.requires.sides

pub run_steps-requires-clause-follow : goal.run_steps-requires-clause-follow
run_steps-requires-clause-follow g c = λ i s there.
    let are = subst (AreSteps c.args.plan.now c.args.events.now) (sym c.deref-2.ensures.value) c.in_ok-steps.ensures in
    subst (λ (es : List Event). CanFollow (g.S.Side.laid s).leaves (g.S.Side.last s) es) (sym (own_steps c.args.plan.now c.args.events.now c.deref-2.result.now are i))
    (own_follow g.S.Side.laid g.S.Side.last c.args.plan.now c.args.sides.now c.args.events.now c.requires.events i s there)

pub returns-in_err-rows-clause-stopped : goal.returns-in_err-rows-clause-stopped
returns-in_err-rows-clause-stopped g c =
    let are = subst (AreSteps c.args.plan.now c.args.events.now) (sym c.deref-2.ensures.value) c.in_ok-steps.ensures in
    on_err c.from_residual-in_err-rows.result _
    (some_as g.S.Side.machine g.S.Side.laid g.S.Side.stands_for c.args.turns (own_in c.deref-2.result.now) (own_events c.args.plan.now c.args.events.now)
    (own_steps c.args.plan.now c.args.events.now c.deref-2.result.now are) c.args.sides.now c.run_steps.new.sides c.in_err-rows.ensures.stopped)

pub returns-clause-places : goal.returns-clause-places
returns-clause-places g c =
    let are = subst (AreSteps c.args.plan.now c.args.events.now) (sym c.deref-2.ensures.value) c.in_ok-steps.ensures in
    subst (AreRowPlaces c.args.plan.now c.args.events.now) (sym (ap (map place_of) c.from_vec.ensures ∙ c.in_ok-rows.ensures.places))
    (row_places c.args.plan.now c.args.events.now c.deref-2.result.now are)

pub returns-clause-lines : goal.returns-clause-lines
returns-clause-lines g c =
    let are = subst (AreSteps c.args.plan.now c.args.events.now) (sym c.deref-2.ensures.value) c.in_ok-steps.ensures in
    lines_as g.S.Side.machine g.S.Side.laid g.S.Side.stands_for c.args.turns (own_in c.deref-2.result.now) (own_events c.args.plan.now c.args.events.now)
    (own_steps c.args.plan.now c.args.events.now c.deref-2.result.now are) c.args.sides.now c.from_vec.result
    (subst (λ (rs : List TaskRow). HaveLines g.S.Side.machine g.S.Side.laid g.S.Side.stands_for c.args.turns c.args.sides.now (own_in c.deref-2.result.now) rs) (sym c.from_vec.ensures) c.in_ok-rows.ensures.lines)

pub returns-clause-meaning : goal.returns-clause-meaning
returns-clause-meaning g c =
    let are = subst (AreSteps c.args.plan.now c.args.events.now) (sym c.deref-2.ensures.value) c.in_ok-steps.ensures in
    brought_as g.S.Side.machine g.S.Side.laid g.S.Side.stands_for c.args.turns (own_in c.deref-2.result.now) (own_events c.args.plan.now c.args.events.now)
    (own_steps c.args.plan.now c.args.events.now c.deref-2.result.now are) c.args.sides.now c.run_steps.new.sides c.in_ok-rows.ensures.meaning

pub returns-clause-time : goal.returns-clause-time
returns-clause-time g c =
    let are = subst (AreSteps c.args.plan.now c.args.events.now) (sym c.deref-2.ensures.value) c.in_ok-steps.ensures in
    last_as g.S.Side.laid g.S.Side.last (own_in c.deref-2.result.now) (own_events c.args.plan.now c.args.events.now)
    (own_steps c.args.plan.now c.args.events.now c.deref-2.result.now are) c.args.sides.now c.run_steps.new.sides c.in_ok-rows.ensures.time
