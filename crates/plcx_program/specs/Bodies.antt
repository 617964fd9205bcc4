-- Bodies and their networks, as they are made one after another.
use Rattle.std.specs.Prelude.{◌≡◌, ℕ, List, [], ◌∷◌, ◌++◌, Some, length, slice_get}
use Rattle.std.specs.List.{AllZip}
use Rattle.plcx_types.specs.Lists.{Each}
use Rattle.plcx_meaning.specs.Diagram.{DiagramElement, Pou, Project, has_jump}
use Rattle.plcx_meaning.specs.Layout.{variables_of}
use Rattle.plcx_steps.specs.declared.program.Network.{Network}
use Rattle.plcx_steps.specs.declared.program.Body.{Body}
use Rattle.plcx_steps.specs.declared.program.Program.{Program}
use Rattle.plcx_numbered.specs.Numbers.{level, inner_depth, places_of, cells, depth, in_out_names}
use Rattle.plcx_numbered.specs.Programs.{IsNetworkOf}
use Rattle.plcx_drawn.specs.declared.drawing.Drawing.{Drawing}
use Rattle.plcx_drawn.specs.Shown.{shown_networks}
use Rattle.plcx_prepare.specs.Literals.{ElementHasLiterals}
use Rattle.plcx_tables.specs.declared.own.Own.{Own}
use Rattle.plcx_tables.specs.declared.placed.Table.{Table}
use Rattle.plcx_tables.specs.Owned.{AreOwn}
use Rattle.plcx_tables.specs.Tabled.{ArePlaced}
use Rattle.plcx_bodies.specs.Framed.{IsWithin}
use Rattle.plcx_bodies.specs.Made.{Begins}
use Rattle.plcx_bodies.specs.declared.networks.Shared.{Shared}
use Rattle.plcx_program.specs.declared.networks.Networks.{Networks}
use Rattle.plcx_program.specs.declared.bodies.Bodies.{Bodies}

-- the elements of the networks of a drawing have their literals
abbrev pub HaveLiterals : Drawing → Type 0
HaveLiterals d = Each (Each ElementHasLiterals) (shown_networks d)

-- tables of the POUs of a project
pub record AreTablesOf (project : Project) (tables : List Table) : Type 0 where
  pub owns : List Own
  pub own : AreOwn project owns
  pub placed : ArePlaced owns tables

-- the drawing is the POU at that place, and these are the tables of all
pub record IsDrawn (project : Project) (tables : List Table) (place : ℕ) (drawing : Drawing) (p : Pou) : Type 0 where
  pub told : AreTablesOf project tables
  pub there : slice_get project place ≡ Some p
  pub networks : p.networks ≡ shown_networks drawing

-- ---- networks

-- each program that begins with what is shared here began with what was shared there
abbrev pub Continues : Shared → Shared → Type 0
Continues before after = (program : Program) → Begins after program → Begins before program

-- a network more, which is one of each program that begins so
pub record AddsNetwork (project : Project) (p : Pou) (es : List DiagramElement) (before after : Networks) : Type 0 where
  pub network : Network
  pub more : after.items.items ≡ before.items.items ++ network ∷ []
  pub is : (program : Program) → Begins after.shared program → IsNetworkOf project program p es network
  pub continues : Continues before.shared after.shared

-- these are the networks
pub record HasNetworks (project : Project) (p : Pou) (networks : List (List DiagramElement)) (before : Shared) (all : Networks) : Type 0 where
  pub are : (program : Program) → Begins all.shared program → AllZip (IsNetworkOf project program p) networks all.items.items
  pub continues : Continues before all.shared

-- ---- bodies

-- what is said of a body that has no place yet
pub record IsPlain (project : Project) (p : Pou) (body : Body) : Type 0 where
  pub level : body.level ≡ level inner_depth project p
  pub leaves : body.leaves ≡ length (places_of project (variables_of p.lists))
  pub memories : body.memories ≡ length (cells depth project p)
  pub in_outs : body.in_outs ≡ length (in_out_names (variables_of p.lists))
  pub width : Each (IsWithin body.width) body.networks.items
  pub jumps : body.jumps ≡ has_jump p.networks

-- and of its networks
pub record IsUnframed (project : Project) (program : Program) (p : Pou) (body : Body) : Type 0 where
  pub plain : IsPlain project p body
  pub networks : AllZip (IsNetworkOf project program p) p.networks body.networks.items

-- a body more
pub record AddsBody (project : Project) (p : Pou) (before after : Bodies) : Type 0 where
  pub body : Body
  pub more : after.items.items ≡ before.items.items ++ body ∷ []
  pub is : (program : Program) → Begins after.shared program → IsUnframed project program p body
  pub continues : Continues before.shared after.shared

-- these POUs have their bodies
abbrev pub HasBodies : Project → List Pou → Bodies → Type 0
HasBodies project pous all = (program : Program) → Begins all.shared program → AllZip (IsUnframed project program) pous all.items.items
