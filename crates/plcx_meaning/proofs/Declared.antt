-- What a text declares: what its diagram does, and behind it the compiler's own variables.
use Rattle.std.proofs.Common.{ℕ, List, refl}
use Rattle.plcx_meaning.specs.Layout.{composed, variables_of}
use Rattle.plcx_meaning.specs.Diagram.{Pou, Project}
use Rattle.plcx_meaning.specs.Evaluate.{world_of}
use Rattle.plcx_meaning.specs.Execute as text
use Rattle.plcx_meaning.specs.Templates.{pou_text, unit_of}
use Rattle.plcx_meaning.specs.Fits.{PouFits, ProjectFits}
use Rattle.plcx_meaning.proofs.Names.{wire_own, memory_own, counter_own}
use Rattle.plcx_meaning.proofs.Lookups.{own_variables, text_variables}
use Rattle.plcx_meaning.proofs.LookupsOwn.{variables_declared}
use Rattle.plcx_meaning.proofs.StaticsWorlds.{hidden, text_composed, own_each, hidden_each, composed_declared}
use Rattle.plcx_meaning.proofs.Layouts.{IsHidden, Extends}

-- the variables of a POU in its text
pub pou_extends : (project : Project) (p : Pou) → PouFits project p → Extends (variables_of p.lists) (variables_of (pou_text p).blocks)
pou_extends project p fits = record {
  own = own_variables p;
  is = text_variables p;
  declared = variables_declared project p fits;
  owned = own_each IsHidden (λ k t. record { own = memory_own k; mark = refl; initial = refl }) (λ id pin t. record { own = wire_own id pin; mark = refl; initial = refl }) (record { own = counter_own; mark = refl; initial = refl }) p;
}

-- the variables of the name of a type
pub worlds_extend : (project : Project) → ProjectFits project → (name : List ℕ) → Extends (composed (world_of project) name) (composed (text.world_of (unit_of project)) name)
worlds_extend project fits name = record {
  own = hidden project name;
  is = text_composed project name;
  declared = composed_declared project fits name;
  owned = hidden_each IsHidden (λ k t. record { own = memory_own k; mark = refl; initial = refl }) (λ id pin t. record { own = wire_own id pin; mark = refl; initial = refl }) (record { own = counter_own; mark = refl; initial = refl }) project name;
}
