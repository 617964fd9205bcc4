use Rattle.plcx_layout.specs.Memories.{all_elements}
use Rattle.plcx_layout.proofs.Remembered.{pou_done}
use Rattle.plcx_layout.proofs.memories.+memories.Goals as goal

pub with_pou-returns : goal.with_pou-returns
with_pou-returns t c =
    pou_done c.args.pous.now (all_elements c.args.drawings.now) c.args.retained c.args.place c.args.levels c.loop-list.list-index c.lists_at-lists.result.now c.loop-list.more.items c.args.memories.items
    c.if-levels-eq0.false c.lists_at-lists.ensures c.loop-list-test.false c.loop-list.invariant
