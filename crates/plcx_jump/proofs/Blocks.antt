-- What is in range of a body is in range of its statements.
use Rattle.std.proofs.Common.{List, [], ◌∷◌}
use Rattle.plcx_types.specs.Lists.{Each}
use Rattle.plcx_meaning.specs.Tree.{Statement, statements}
use Rattle.plcx_st.specs.InRange.{StatementInRange, StatementsInRange}

-- the statements of a body
pub stated : (ss : List Statement) → StatementsInRange (statements ss) → Each StatementInRange ss
stated [] h = tt
stated (s ∷ ss) h = (h.0, stated ss h.1)
