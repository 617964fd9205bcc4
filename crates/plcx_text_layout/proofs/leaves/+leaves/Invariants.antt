use Rattle.std.proofs.Common.{◌≡◌, ◌++◌, ◌+◌, ◌-◌, ◌*◌, drop, map}
use Rattle.std.specs.List.{flat_map}
use Rattle.plcx_types.specs.Lists.{Each}
use Rattle.plcx_state.specs.Layouts.{all_meant, BeginsTyped}
use Rattle.plcx_known.specs.Owned.{shown_own}
use Rattle.plcx_leaves.specs.Within.{spelled}
use Rattle.plcx_text_layout.specs.Leaves.{variable_leaves}
use Rattle.plcx_text_layout.specs.Leaves as specs
use Rattle.plcx_text_layout.proofs.leaves.+leaves.Given as goal

abbrev pub decreases-with_pou : goal.decreases-with_pou
decreases-with_pou l = 2 * l.levels

abbrev pub decreases-with_variable : goal.decreases-with_variable
decreases-with_variable l = 2 * l.levels + 1

-- behind the leaves that are made come those of the variables that are left
abbrev pub invariant-with_pou-loop-own : goal.invariant-with_pou-loop-own
invariant-with_pou-loop-own l =
    let n = l.levels - 1 in
    let made = variable_leaves n (specs.leaves n l.owners) l.owners (spelled l.within) l.retained in
    record {
      shown : all_meant l.more.items ++ flat_map made (map shown_own (drop l.own-index l.variables)) ≡ all_meant l.fn.leaves.items ++ flat_map made (map shown_own l.variables);
      typed : Each BeginsTyped l.fn.leaves.items → Each BeginsTyped l.more.items;
    }
