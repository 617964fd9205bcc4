use Rattle.std.proofs.Common.{refl}
use Rattle.plcx_state.specs.Layouts.{leaf_at}
use Rattle.plcx_keep.proofs.examples.examples_of_carrying.Goals as goal

pub returns-clause-in_any_case : goal.returns-clause-in_any_case
unfolding leaf_at
returns-clause-in_any_case c = refl

pub returns-clause-wider : goal.returns-clause-wider
unfolding leaf_at
returns-clause-wider c = refl

pub returns-clause-out_of_range : goal.returns-clause-out_of_range
unfolding leaf_at
returns-clause-out_of_range c = refl

pub returns-clause-truth_is_no_number : goal.returns-clause-truth_is_no_number
unfolding leaf_at
returns-clause-truth_is_no_number c = refl

pub returns-clause-time_is_no_number : goal.returns-clause-time_is_no_number
unfolding leaf_at
returns-clause-time_is_no_number c = refl

pub returns-clause-bits_are_no_number : goal.returns-clause-bits_are_no_number
unfolding leaf_at
returns-clause-bits_are_no_number c = refl

pub returns-clause-renamed : goal.returns-clause-renamed
unfolding leaf_at
returns-clause-renamed c = refl
