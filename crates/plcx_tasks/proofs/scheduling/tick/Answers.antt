use Rattle.std.proofs.Common.{rules, ◌≡◌, ◌++◌, ◌∙◌, ℤ, Bool, List, Some, ap, map, arith, to_z, of_z, w64}
use Rattle.std.proofs.lemmas.Int.{ints}
use mir.Val.{SFits}
use Rattle.std.specs.List.{flat_map}
use Rattle.plcx_scan.specs.declared.event.Input.{Input}
use Rattle.plcx_tasks.specs.declared.ranking.Rank.{Rank}
use Rattle.plcx_tasks.specs.Steps.{is_clock_due, clock_after, scan_of, left_behind}
use Rattle.plcx_tasks.proofs.Keeping.{tick_led}
use Rattle.plcx_tasks.proofs.scheduling.tick.Goals as goal

pub returns : goal.returns
returns c =
    let time = c.args.moment.time in
    let fits : SFits w64 time = search rules in
    let same : to_z w64 (of_z w64 time) ≡ time = omega (arith, ints) in
    let number = c.args.moment.event in
    let steps = c.args.steps.now.items in
    let due = c.in_ok-due.due.items in
    let order = c.args.ranks.now.order.items in
    let taken = c.take_inputs.new.pending.items in
    tick_led c.args.ranks.now.all.items order number time c.args.inputs.now c.args.standing.now.clocks.items c.in_ok-clocks.clocks.items due c.args.standing.now.pending.items taken c.clear_due.new.pending.items steps c.push_scans.new.steps.items
    c.in_ok-take_inputs.ensures.given
    (c.in_ok-due.ensures ∙ ap (λ (t : ℤ). map (is_clock_due t) c.deref.result.now) same ∙ ap (map (is_clock_due time)) c.deref.ensures.value)
    (c.in_ok-push_scans.ensures
    ∙ ap (λ (d : List Bool). steps ++ flat_map (scan_of d c.deref-2.result.now number time) c.deref-4.result.now) c.deref-3.ensures.value
    ∙ ap (λ (p : List (List Input)). steps ++ flat_map (scan_of due p number time) c.deref-4.result.now) c.deref-2.ensures.value
    ∙ ap (λ (rs : List Rank). steps ++ flat_map (scan_of due taken number time) rs) c.deref-4.ensures.value)
    (λ i past there.
    c.clear_due.ensures.left i past there
    ∙ ap (λ (d : List Bool). Some (left_behind d i past c.deref-6.result.now)) c.deref-5.ensures.value
    ∙ ap (λ (rs : List Rank). Some (left_behind due i past rs)) c.deref-6.ensures.value)
    (c.clear_due.ensures.long ∙ c.take_inputs.ensures.long)
    (c.in_ok-clocks.ensures ∙ ap (λ (t : ℤ). map (clock_after t) c.deref-7.result.now) same ∙ ap (map (clock_after time)) c.deref-7.ensures.value)
