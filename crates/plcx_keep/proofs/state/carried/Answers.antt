use Rattle.std.proofs.Common.{◌+◌, List, Option, sym, subst, arith}
use Rattle.plcx_types.specs.Lists.{Each}
use Rattle.plcx_types.specs.Value.{Value}
use Rattle.plcx_keep.specs.declared.carry.CarryRow.{CarryRow}
use Rattle.plcx_keep.specs.States.{AreRowsOf, HasRow}
use Rattle.plcx_keep.proofs.Lists.{read_there}
use Rattle.plcx_keep.proofs.States.{Goes, goes_more, goes_all, can_set}
use Rattle.plcx_keep.proofs.state.carried.Goals as goal

pub set-requires : goal.set-requires
set-requires c =
    let leaves = c.args.after.now.leaves in
    let rows = c.as_slice-row-items.result.now in
    let row = c.row-item.result in
    let are : AreRowsOf leaves rows = subst (AreRowsOf leaves) (sym c.as_slice-row-items.ensures) c.requires in
    can_set leaves rows are c.loop-row.state c.loop-row.row-index c.loop-row.invariant row (read_there rows c.loop-row.row-index row (omega arith) c.row-item.is)

pub loop-row-preserved : goal.loop-row-preserved
loop-row-preserved c =
    let leaves = c.args.after.now.leaves in
    let rows = c.as_slice-row-items.result.now in
    let row = c.row-item.result in
    let are : AreRowsOf leaves rows = subst (AreRowsOf leaves) (sym c.as_slice-row-items.ensures) c.requires in
    subst (λ (kept : List (Option Value)). Goes leaves rows kept (c.loop-row.row-index + 1)) (sym c.set.ensures.value)
    (goes_more leaves rows are c.loop-row.state c.loop-row.row-index c.loop-row.invariant row (read_there rows c.loop-row.row-index row (omega arith) c.row-item.is) c.set.ensures.range)

pub returns : goal.returns
returns c =
    let leaves = c.args.after.now.leaves in
    let rows = c.as_slice-row-items.result.now in
    let are : AreRowsOf leaves rows = subst (AreRowsOf leaves) (sym c.as_slice-row-items.ensures) c.requires in
    record {
      state = c.loop-row.invariant.state;
      values = subst (λ (rs : List CarryRow). Each (HasRow c.loop-row.state) rs) c.as_slice-row-items.ensures (goes_all leaves rows are c.loop-row.state c.loop-row.row-index (omega arith) c.loop-row.invariant);
    }
