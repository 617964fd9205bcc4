-- Networks of elements, and what they add to the lists that all networks of a program share.
use Rattle.std.specs.Prelude.{◌≡◌, ◌++◌, List, length, map}
use Rattle.plcx_meaning.specs.Diagram.{DiagramElement}
use Rattle.plcx_steps.specs.declared.program.Argument.{Argument}
use Rattle.plcx_steps.specs.declared.program.Operand.{Operand}
use Rattle.plcx_steps.specs.declared.program.Program.{Program}
use Rattle.plcx_numbered.specs.Prepared.{Numbering, elements_steps, elements_arguments, elements_bindings}
use Rattle.plcx_numbered.specs.Right.{leaps}
use Rattle.plcx_numbered.specs.Programs.{network_wires, jump_of}
use Rattle.plcx_bodies.specs.declared.networks.Shared.{Shared}
use Rattle.plcx_bodies.specs.declared.networks.Made.{Made}

-- the network of elements by these numbers, in a body of these networks, and what is shared before it and behind it
pub record IsMade (c : Numbering) (networks : List (List DiagramElement)) (es : List DiagramElement) (before : Shared) (made : Made) : Type 0 where
  pub wires : made.network.wires.items ≡ network_wires es
  pub steps : made.network.steps.items ≡ elements_steps c (length before.arguments.items) (length before.bindings.items) es
  pub jumps : made.network.jumps.items ≡ map (jump_of c) (leaps networks es)
  pub arguments : made.shared.arguments.items ≡ before.arguments.items ++ elements_arguments c es
  pub bindings : made.shared.bindings.items ≡ before.bindings.items ++ elements_bindings c es

-- a program begins with what is shared so far
pub record Begins (shared : Shared) (program : Program) : Type 0 where
  pub more_arguments : List Argument
  pub more_bindings : List Operand
  pub arguments : program.arguments.items ≡ shared.arguments.items ++ more_arguments
  pub bindings : program.bindings.items ≡ shared.bindings.items ++ more_bindings
