use Rattle.std.proofs.Common.{◌≡◌, ◌++◌, ◌+◌, ◌-◌, ◌*◌, drop}
use Rattle.std.specs.List.{flat_map}
use Rattle.plcx_model.specs.declared.project.Variable.{Variable}
use Rattle.plcx_layout.specs.Memories.{element_memories, elements_at, all_elements, type_memories, list_memories}
use Rattle.plcx_layout.specs.Memories as specs
use Rattle.plcx_layout.proofs.memories.+memories.Given as goal

abbrev pub decreases-with_pou : goal.decreases-with_pou
decreases-with_pou l = 2 * l.levels

abbrev pub decreases-with_list : goal.decreases-with_list
decreases-with_list l = 2 * l.levels + 1

-- behind what is remembered comes what the variables that are left remember
abbrev pub invariant-with_list-loop-variable : goal.invariant-with_list-loop-variable
invariant-with_list-loop-variable l =
    let made = λ (v : Variable). type_memories (specs.memories l.levels l.pous (all_elements l.drawings)) l.retained v.ty in
    l.more.items ++ flat_map made (drop l.variable-index l.variables) ≡ l.fn.memories.items ++ flat_map made l.variables

-- and what the lists that are left remember
abbrev pub invariant-with_pou-loop-list : goal.invariant-with_pou-loop-list
invariant-with_pou-loop-list l =
    let made = list_memories (specs.memories (l.levels - 1) l.pous (all_elements l.drawings)) l.retained in
    l.more.items ++ flat_map made (drop l.list-index l.lists) ≡ (l.fn.memories.items ++ flat_map (element_memories l.retained) (elements_at (all_elements l.drawings) l.fn.place)) ++ flat_map made l.lists
