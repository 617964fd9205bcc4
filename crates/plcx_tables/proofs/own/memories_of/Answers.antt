use Rattle.plcx_drawn.specs.declared.element.Element.{Element}
use Rattle.plcx_drawn.specs.Shown.{shown_element}
use Rattle.plcx_tables.specs.Named.{MemoriesTold}
use Rattle.plcx_tables.specs.Owned.{places_of, remembered_by}
use Rattle.plcx_tables.proofs.Walks.{step_flat, all_flat}
use Rattle.plcx_tables.proofs.Listed.{remembered_all}
use Rattle.plcx_tables.proofs.own.memories_of.Goals as goal

pub loop-element-preserved : goal.loop-element-preserved
loop-element-preserved c =
    let after = c.in_ok-memories.memories in
    step_flat (λ ms. MemoriesTold after.numbers.entries after.count (places_of ms)) (λ (e : Element). remembered_by (shown_element e)) c.args.elements.now c.loop-element.element-index c.element-item.result
    c.loop-element-test.true c.element-item.is (c.in_ok-memories.ensures _ c.loop-element.invariant)

pub returns : goal.returns
returns c =
    let all = c.loop-element.memories in
    remembered_all (MemoriesTold all.numbers.entries all.count) c.args.elements.now (all_flat (λ ms. MemoriesTold all.numbers.entries all.count (places_of ms)) (λ (e : Element). remembered_by (shown_element e)) c.args.elements.now c.loop-element.element-index c.loop-element-test.false c.loop-element.invariant)
