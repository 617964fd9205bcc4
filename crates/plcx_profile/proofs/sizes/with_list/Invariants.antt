use Rattle.std.proofs.Common.{◌≡◌, drop, fold}
use Rattle.plcx_profile.specs.Sizes.{with_variable, with_list}
use Rattle.plcx_profile.proofs.sizes.with_list.Given as goal

abbrev pub invariant-loop-variable : goal.invariant-loop-variable
invariant-loop-variable l = fold (with_variable l.blocks l.list.class) l.content (drop l.variable-index l.variable-items) ≡ with_list l.blocks l.initial.content l.list
