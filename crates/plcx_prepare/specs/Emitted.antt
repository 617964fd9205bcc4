-- What elements add to what is prepared.
use Rattle.std.specs.Prelude.{◌≡◌, ◌++◌, List, length}
use Rattle.plcx_meaning.specs.Diagram.{DiagramElement}
use Rattle.plcx_numbered.specs.Prepared.{Numbering, elements_steps, elements_arguments, elements_bindings}
use Rattle.plcx_prepare.specs.declared.elements.Prepared.{Prepared}

-- these elements one after another, behind what was prepared before
pub record Adds (c : Numbering) (es : List DiagramElement) (before after : Prepared) : Type 0 where
  pub steps : after.steps.items ≡ before.steps.items ++ elements_steps c (length before.arguments.items) (length before.bindings.items) es
  pub arguments : after.arguments.items ≡ before.arguments.items ++ elements_arguments c es
  pub bindings : after.bindings.items ≡ before.bindings.items ++ elements_bindings c es
