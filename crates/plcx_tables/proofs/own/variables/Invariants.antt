use Rattle.std.proofs.Common.{◌≡◌, map, take}
use Rattle.std.specs.List.{flat_map}
use Rattle.plcx_meaning.specs.Diagram.{Project}
use Rattle.plcx_meaning.specs.Layout.{block_variables}
use Rattle.plcx_model.specs.declared.project.VarList.{VarList}
use Rattle.plcx_view.specs.Declared.{list_of}
use Rattle.plcx_tables.specs.Telling.{told, shown, AreNamed}
use Rattle.plcx_tables.proofs.own.variables.Given as goal

abbrev pub invariant-loop-list : goal.invariant-loop-list
invariant-loop-list l = (project : Project) → AreNamed project l.named → map shown l.all.items ≡ flat_map (λ (list : VarList). map (told project) (block_variables (list_of l.pous list))) (take l.list-index l.list-items)
