use Rattle.std.proofs.Common.{◌∙◌, ap}
use Rattle.plcx_draft.specs.DraftIn.{value_at, initial_in}
use Rattle.plcx_draft.proofs.read.initial_in.Goals as goal

pub returns : goal.returns
unfolding initial_in
returns c = c.in_ok-value_at.ensures ∙ ap value_at c.child_of.ensures
