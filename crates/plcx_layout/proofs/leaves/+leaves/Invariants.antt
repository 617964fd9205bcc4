use Rattle.std.proofs.Common.{◌≡◌, ◌∷◌, ◌++◌, ◌+◌, ◌-◌, ◌*◌, drop}
use Rattle.std.specs.List.{flat_map}
use Rattle.plcx_model.specs.declared.project.Variable.{Variable}
use Rattle.plcx_types.specs.Lists.{Each}
use Rattle.plcx_state.specs.Layouts.{all_meant, BeginsTyped}
use Rattle.plcx_layout.specs.Leaves.{type_leaves, list_leaves}
use Rattle.plcx_layout.specs.Leaves as specs
use Rattle.plcx_layout.specs.Suits.{Suits, ListSuits, PousSuit}
use Rattle.plcx_leaves.specs.Within.{spelled}
use Rattle.plcx_layout.proofs.leaves.+leaves.Given as goal

abbrev pub decreases-with_lists : goal.decreases-with_lists
decreases-with_lists l = 3 * l.levels

abbrev pub decreases-with_list : goal.decreases-with_list
decreases-with_list l = 3 * l.levels + 2

abbrev pub decreases-with_variable : goal.decreases-with_variable
decreases-with_variable l = 3 * l.levels + 1

-- behind the leaves that are made come those of the variables that are left
abbrev pub invariant-with_list-loop-variable : goal.invariant-with_list-loop-variable
invariant-with_list-loop-variable l =
    let made = λ (v : Variable). type_leaves l.levels (specs.leaves l.levels l.pous) l.pous (v.name ∷ spelled l.within) l.marks.retained l.marks.constant v.initial v.ty in
    record {
      shown : all_meant l.more.items ++ flat_map made (drop l.variable-index l.variables) ≡ all_meant l.fn.leaves.items ++ flat_map made l.variables;
      typed : PousSuit l.pous → Each Suits l.variables → Each BeginsTyped l.fn.leaves.items → Each BeginsTyped l.more.items;
    }

-- and those of the lists that are left
abbrev pub invariant-with_lists-loop-list : goal.invariant-with_lists-loop-list
invariant-with_lists-loop-list l =
    let n = l.levels - 1 in
    let made = list_leaves n (specs.leaves n l.pous) l.pous (spelled l.within) l.retained in
    record {
      shown : all_meant l.more.items ++ flat_map made (drop l.list-index l.lists) ≡ all_meant l.fn.leaves.items ++ flat_map made l.lists;
      typed : PousSuit l.pous → Each ListSuits l.lists → Each BeginsTyped l.fn.leaves.items → Each BeginsTyped l.more.items;
    }
