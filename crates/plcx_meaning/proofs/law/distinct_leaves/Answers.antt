use Rattle.plcx_meaning.specs.Evaluate.{scope_of}
use Rattle.plcx_meaning.specs.Execute as text
use Rattle.plcx_meaning.specs.Fits.{PouFits}
use Rattle.plcx_meaning.specs.Ready.{PouIsReady}
use Rattle.plcx_meaning.proofs.Lists.{each_weaker}
use Rattle.plcx_meaning.proofs.LeafPaths.{proper_layout, layout_begins}
use Rattle.plcx_meaning.proofs.LeafScopes.{diagram_scope, text_scope}
use Rattle.plcx_meaning.proofs.law.distinct_leaves.Goals as goal

pub returns-clause-diagrams : goal.returns-clause-diagrams
returns-clause-diagrams c = λ project fits. each_weaker (PouFits project) _ project (λ p one. proper_layout (scope_of project p) (diagram_scope project fits p one)) fits.pous

pub returns-clause-texts : goal.returns-clause-texts
returns-clause-texts c = λ unit ready. each_weaker (PouIsReady unit) _ unit (λ p one. proper_layout (text.scope_of unit p) (text_scope unit ready p one)) ready.pous

pub returns-clause-initial : goal.returns-clause-initial
returns-clause-initial c = layout_begins
