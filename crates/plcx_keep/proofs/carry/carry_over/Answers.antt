use Rattle.std.proofs.Common.{◌∙◌}
use Rattle.plcx_keep.proofs.Rows.{rows_so, rows_within_so, lost_within_so}
use Rattle.plcx_keep.proofs.carry.carry_over.Goals as goal

pub returns-clause-rows : goal.returns-clause-rows
returns-clause-rows c = rows_so _ _ c.args.after.now c.leaves.ensures.laid _ _ c.leaves.ensures.leaves (c.from_vec.ensures ∙ c.in_ok-rows.ensures)

pub returns-clause-within : goal.returns-clause-within
returns-clause-within c = rows_within_so _ _ c.args.after.now _ _ c.leaves.ensures.leaves (c.from_vec.ensures ∙ c.in_ok-rows.ensures)

pub returns-clause-lost_within : goal.returns-clause-lost_within
returns-clause-lost_within c = lost_within_so _ _ c.args.before.now _ _ c.leaves-2.ensures.leaves (c.from_vec-2.ensures ∙ c.in_ok-lost.ensures)
