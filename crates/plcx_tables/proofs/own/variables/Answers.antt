use Rattle.std.proofs.Common.{map, ap, ◌∙◌}
use Rattle.std.specs.List.{flat_map}
use Rattle.std.proofs.lemmas.List.{take_all}
use Rattle.plcx_meaning.specs.Layout.{block_variables}
use Rattle.plcx_model.specs.declared.project.VarList.{VarList}
use Rattle.plcx_view.specs.Declared.{list_of}
use Rattle.plcx_tables.specs.Telling.{told}
use Rattle.plcx_tables.proofs.Listed.{of_lists}
use Rattle.plcx_tables.proofs.own.variables.Goals as goal

pub returns : goal.returns
returns c = λ project named.
    let pous = c.args.pous.now in
    c.loop-list.invariant project named
    ∙ ap (flat_map (λ (list : VarList). map (told project) (block_variables (list_of pous list)))) (take_all c.loop-list.list-index c.lists-list-items.result.now c.loop-list-test.false ∙ c.lists-list-items.ensures)
    ∙ of_lists project pous c.args.pou.now.lists
