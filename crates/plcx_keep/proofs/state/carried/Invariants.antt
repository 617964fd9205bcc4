use Rattle.plcx_keep.proofs.States.{Goes}
use Rattle.plcx_keep.proofs.state.carried.Given as goal

-- the state has the values of the rows so far
abbrev pub invariant-loop-row : goal.invariant-loop-row
invariant-loop-row l = Goes l.after.leaves l.row-items l.state l.row-index
