-- The prepared program of a project.
use Rattle.std.specs.Prelude.{◌≡◌, ◌+◌, ◌≤◌, ℕ, pos, List, [], ◌++◌, Some, length, map, replicate, slice_get}
use Rattle.std.specs.List.{flat_map, AllZip, Contains}
use Rattle.plcx_types.specs.Lists.{Each}
use Rattle.plcx_types.specs.Value.{Value}
use Rattle.plcx_funcs.specs.Applied.{value}
use Rattle.plcx_meaning.specs.Diagram.{Port, ports, DiagramElement, Pou, Project, has_jump}
use Rattle.plcx_meaning.specs.Evaluate.{place_named}
use Rattle.plcx_meaning.specs.Layout.{Variable, variables_of}
use Rattle.plcx_steps.specs.declared.program.Jump.{Jump}
use Rattle.plcx_steps.specs.declared.program.Network.{Network}
use Rattle.plcx_steps.specs.declared.program.Body.{Body}
use Rattle.plcx_steps.specs.declared.program.Program.{Program}
use Rattle.plcx_steps.specs.Numbered.{bit}
use Rattle.plcx_numbered.specs.Prepared.{Numbering, elements_steps, elements_arguments, elements_bindings}
use Rattle.plcx_numbered.specs.Right.{HasAt, leaps}
use Rattle.plcx_numbered.specs.Numbers.{spare_wires, numbering, depth, inner_depth, level, places_of, cells, in_out_names, user_of}

-- the outputs of elements at their defaults, and the spare wires, which are truth values
abbrev pub network_wires : List DiagramElement → List Value
network_wires es = map (λ (o : Port). value o.ty (pos 0)) (flat_map (λ (e : DiagramElement). ports e.kind) es) ++ replicate (spare_wires es) (bit (pos 0))

-- a jump by the wire of its element
abbrev pub jump_of : Numbering → (ℕ × ℕ) → Jump
jump_of c l = record { wire = c.wire l.1 []; target = l.0 }

-- a network is prepared of its elements, whose arguments and bindings stand in the program from these places on, which lie within it
pub record IsNetworkOf (project : Project) (program : Program) (p : Pou) (es : List DiagramElement) (network : Network) : Type 0 where
  pub argument : ℕ
  pub binding : ℕ
  pub wires : network.wires.items ≡ network_wires es
  pub steps : network.steps.items ≡ elements_steps (numbering project p es) argument binding es
  pub jumps : network.jumps.items ≡ map (jump_of (numbering project p es)) (leaps p.networks es)
  pub arguments : HasAt program.arguments.items argument (elements_arguments (numbering project p es) es)
  pub bindings : HasAt program.bindings.items binding (elements_bindings (numbering project p es) es)
  pub arguments_begin : argument ≤ length program.arguments.items
  pub bindings_begin : binding ≤ length program.bindings.items

-- The frame of a body: how many levels of blocks are below it, how many leaves, memories and in-outs an instance has, wires enough for each of its
-- networks, and the place of its wires and in-outs, behind those of the blocks that it calls.
pub record IsFrameOf (project : Project) (program : Program) (p : Pou) (body : Body) : Type 0 where
  pub level : body.level ≡ level inner_depth project p
  pub leaves : body.leaves ≡ length (places_of project (variables_of p.lists))
  pub memories : body.memories ≡ length (cells depth project p)
  pub in_outs : body.in_outs ≡ length (in_out_names (variables_of p.lists))
  pub width : Each (λ (network : Network). length network.wires.items ≤ body.width) body.networks.items
  pub behind : (v : Variable) (q : Pou) (callee : Body) → Contains (variables_of p.lists) v → user_of project v ≡ Some q
      → slice_get program.bodies.items (place_named v.ty project) ≡ Some callee
      → (callee.first_wire + callee.width ≤ body.first_wire) × (callee.first_in_out + callee.in_outs ≤ body.first_in_out)

-- a body of its POU
pub record IsBodyOf (project : Project) (program : Program) (p : Pou) (body : Body) : Type 0 where
  pub frame : IsFrameOf project program p body
  pub jumps : body.jumps ≡ has_jump p.networks
  pub networks : AllZip (IsNetworkOf project program p) p.networks body.networks.items

-- a program of its project
pub record IsProgramOf (project : Project) (program : Program) : Type 0 where
  pub bodies : AllZip (IsBodyOf project program) project program.bodies.items
