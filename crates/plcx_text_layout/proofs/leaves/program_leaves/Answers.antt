use Rattle.std.proofs.Common.{List, [], false, ◌++◌, ap, ◌∙◌}
use Rattle.plcx_state.specs.declared.layout.Leaf.{Leaf}
use Rattle.plcx_state.specs.Layouts.{all_meant}
use Rattle.plcx_known.specs.Owned.{Typed}
use Rattle.plcx_text_layout.specs.Leaves.{variables_at, leaves, program_leaves}
use Rattle.plcx_text_layout.proofs.leaves.program_leaves.Goals as goal

pub returns-clause-leaves : goal.returns-clause-leaves
unfolding program_leaves
returns-clause-leaves c =
    let made = λ (owners : List (List Typed)). leaves 18 owners [] false (variables_at owners c.args.place) in
    c.in_ok-with_pou.ensures.shown
    ∙ ap (λ (ls : List Leaf). all_meant ls ++ made c.owners-owners.result.now) c.new.ensures.items
    ∙ ap made c.owners-owners.ensures
