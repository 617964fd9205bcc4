use Rattle.std.proofs.Common.{map, sym, ◌∙◌}
use Rattle.plcx_meaning.specs.Diagram.{is_jump}
use Rattle.plcx_drawn.specs.Shown.{shown_element}
use Rattle.plcx_targets.proofs.Jumps.{any_here, any_later, any_past}
use Rattle.plcx_targets.proofs.targets.network_jumps.Goals as goal
use Rattle.plcx_targets.proofs.targets.network_jumps.Goals.{in-Some+else-is_jump, in_default}

pub returns-then-is_jump : goal.returns-then-is_jump
returns-then-is_jump c =
    let e = shown_element c.in-Some.element.now in
    any_here is_jump (map shown_element c.args.elements.now) c.args.places.now c.loop-place.place-index e _ c.loop-place-test.true c.in-Some.ensures (sym (c.is_jump.ensures e.id e.fed) ∙ c.if-is_jump.true) c.loop-place.invariant

pub loop-place-preserved : goal.loop-place-preserved
loop-place-preserved c = elim c.match-element_at.branch [
  | in-Some+else-is_jump w ↦
      let e = shown_element w.in-Some.element.now in
      any_later is_jump (map shown_element c.args.elements.now) c.args.places.now c.loop-place.place-index e _ c.loop-place-test.true w.in-Some.ensures (sym (w.is_jump.ensures e.id e.fed) ∙ w.if-is_jump.false) c.loop-place.invariant
  | in_default w ↦ any_past is_jump (map shown_element c.args.elements.now) c.args.places.now c.loop-place.place-index _ c.loop-place-test.true w.in_default.ensures c.loop-place.invariant
]
