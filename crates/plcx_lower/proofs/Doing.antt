-- The statements of a network do what its elements do.
use Rattle.std.proofs.Common.{◌≡◌, List, subst, sym}
use Rattle.plcx_meaning.specs.Tree.{Statement}
use Rattle.plcx_meaning.specs.Diagram.{DiagramElement}
use Rattle.plcx_meaning.specs.Evaluate.{no_wires, elements_do}
use Rattle.plcx_meaning.specs.Execute.{list_runs}
use Rattle.plcx_meaning.specs.Templates.{elements_text, unit_of}
use Rattle.plcx_meaning.specs.Same.{AlikeAt}
use Rattle.plcx_meaning.specs.Laws.{HoldWires, NetworkAgrees, evaluated_at, run_at, text_calls}
use Rattle.plcx_meaning.proofs.Lists.{each_at}
use Rattle.plcx_meaning.proofs.Networks.{networks_law}
use Rattle.plcx_lower.specs.Does.{DoesNetwork}

pub does_network : (network : List DiagramElement) (ss : List Statement) → ss ≡ elements_text network → DoesNetwork network ss
does_network network ss e project fits p there stands n nests time site ok d g f agree =
    let does = each_at (NetworkAgrees n time project p site) p.networks network (networks_law project fits p there n nests time site ok) stands in
    subst (λ ts. AlikeAt (HoldWires network) (elements_do network (evaluated_at n time project p site) d no_wires) (list_runs ts (run_at project p site) (text_calls n time (unit_of project)) g f))
    (sym e) (does d g f agree)
