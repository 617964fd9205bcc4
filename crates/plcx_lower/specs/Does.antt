-- What the statements of a network do.
use Rattle.std.specs.Prelude.{ℕ, List}
use Rattle.std.specs.List.{Contains}
use Rattle.plcx_meaning.specs.Base.{Site}
use Rattle.plcx_meaning.specs.Tree.{Statement}
use Rattle.plcx_meaning.specs.Diagram.{DiagramElement, Pou, Project}
use Rattle.plcx_meaning.specs.Evaluate.{DiagramState, no_wires, elements_do}
use Rattle.plcx_meaning.specs.Execute.{TextState, Frame, list_runs}
use Rattle.plcx_meaning.specs.Templates.{unit_of}
use Rattle.plcx_meaning.specs.Fits.{ProjectFits, PouNests}
use Rattle.plcx_meaning.specs.Same.{Agree, AlikeAt, IsDeclared}
use Rattle.plcx_meaning.specs.Laws.{HoldWires, evaluated_at, run_at, text_calls}

-- Wherever the network stands in a project that fits, and from all states that agree, these statements do what its elements do: they end, fault or are cut
-- alike, with agreeing states, and where they end each temporary has the value of its wire.
abbrev pub DoesNetwork : List DiagramElement → List Statement → Type 0
DoesNetwork network ss =
    (project : Project) → ProjectFits project → (p : Pou) → Contains project p → Contains p.networks network → (n : ℕ) → PouNests n project p
    → (time : ℕ) (site : Site) → IsDeclared site → (d : DiagramState) (g : TextState) (f : Frame) → Agree d g
    → AlikeAt (HoldWires network) (elements_do network (evaluated_at n time project p site) d no_wires)
    (list_runs ss (run_at project p site) (text_calls n time (unit_of project)) g f)
