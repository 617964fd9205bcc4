-- Where a network is prepared, and what is asked of its steps: the types of their places, and the little of their numbers that doesn't follow from these.
use Rattle.std.proofs.Common.{◌≡◌, ℕ, ◌+◌, ◌<◌, ◌≤◌, List, [], ◌∷◌, length, map, get_or, Some, sym, subst, arith}
use Rattle.std.specs.Prelude.{slice_get}
use Rattle.std.proofs.lemmas.Option.{slice_get_within, slice_get-get_or}
use Rattle.plcx_types.specs.declared.ty.Ty.{Ty}
use Rattle.plcx_types.specs.declared.ty.Ty.TheVariants as ty
use Rattle.plcx_types.specs.Lists.{Each}
use Rattle.plcx_types.specs.Value.{Value}
use Rattle.plcx_std.specs.declared.kind.StdKind.{StdKind}
use Rattle.plcx_std.specs.declared.kind.StdKind.TheVariants as kind
use Rattle.plcx_std.specs.Pins.{Pin, pins}
use Rattle.plcx_meaning.specs.Diagram.{DiagramElement, Pou, Project}
use Rattle.plcx_meaning.specs.Fits.{PouFits, PouNests, ProjectFits}
use Rattle.plcx_state.specs.Stores.{HasValue}
use Rattle.plcx_steps.specs.declared.program.Operand.{Operand}
use Rattle.plcx_steps.specs.declared.program.Operand.TheVariants.{Leaf, InOut}
use Rattle.plcx_steps.specs.declared.program.Source.{Source}
use Rattle.plcx_steps.specs.declared.program.Source.TheVariants.{Constant, Wire, Memory, Variable}
use Rattle.plcx_steps.specs.declared.program.Action.{Action}
use Rattle.plcx_steps.specs.declared.program.Action.TheVariants.{Fix, Write, Keep, Not, And, Or, Apply, Standard}
use Rattle.plcx_steps.specs.declared.program.Step.{Step}
use Rattle.plcx_steps.specs.declared.program.Step.TheVariants.{Act, Skip, Enter, Tell}
use Rattle.plcx_steps.specs.declared.program.Body.{Body}
use Rattle.plcx_steps.specs.declared.program.Program.{Program}
use Rattle.plcx_steps.specs.Sound.{IsPlaced, IsWithin, most_inputs, IsSoundAction, Enters, IsSoundStep, AreSoundSteps}
use Rattle.plcx_steps.specs.Typed.{Shape, IsPlacedOf, IsOf, IsTypedAction, IsTypedStep, AreTypedSteps}
use Rattle.plcx_numbered.specs.Agreeing.{AreApart}
use Rattle.plcx_numbered.specs.Prepared.{Numbering}
use Rattle.plcx_numbered.specs.Numbers.{cells, depth, pins_of, numbering}
use Rattle.plcx_numbered.specs.Programs.{network_wires, IsFrameOf, IsProgramOf}
use Rattle.plcx_runnable.specs.Shapes.{types_of}
use Rattle.plcx_runnable.proofs.Lists.{each_get}

-- a network of a POU of a project, and the POU's body in the program
pub record Ground : Type 0 where
  pub project : Project
  pub fits : ProjectFits project
  pub program : Program
  pub prepared : IsProgramOf project program
  pub pou : Pou
  pub pou_fits : PouFits project pou
  pub nests : PouNests 16 project pou
  pub body : Body
  pub frame : IsFrameOf project program pou body
  pub elements : List DiagramElement
  pub pins_apart : AreApart (pins_of elements)
  pub cells_apart : AreApart (cells depth project pou)

-- a shape has as many places as a body says
pub record IsShapeOf (body : Body) (shape : Shape) : Type 0 where
  pub leaves : body.leaves ≡ length shape.leaves
  pub memories : body.memories ≡ length shape.memories
  pub in_outs : body.in_outs ≡ length shape.in_outs

-- ---- from types to numbers

pins_some : (k : StdKind) → 0 < length (pins k)
pins_some kind.Ton = omega arith
pins_some kind.Tof = omega arith
pins_some kind.Tp = omega arith
pins_some kind.Ctu = omega arith
pins_some kind.Ctd = omega arith
pins_some kind.Ctud = omega arith
pins_some kind.Sr = omega arith
pins_some kind.Rs = omega arith
pins_some kind.RTrig = omega arith
pins_some kind.FTrig = omega arith

last_within : (ps : List Pin) (leaves most : ℕ) → ((i : ℕ) (p : Pin) → slice_get ps i ≡ Some p → leaves + i < most) → 0 < length ps → leaves + length ps ≤ most
last_within [] leaves most each some = absurd (omega arith)
last_within (p ∷ ps) leaves most each some = let low = each (length ps) (get_or (p ∷ ps) (length ps) p) (slice_get-get_or (p ∷ ps) (length ps) p (omega arith)) in omega arith

module _ (shapes : List Shape) (program : Program) (shape : Shape) (body : Body) (wires : List Value) where
  -- what is asked beyond types
  abbrev pub Rest : Step → Type 0
  Rest (Act (Apply f t first count wire)) = (count ≤ most_inputs) × (first + count ≤ length program.arguments.items)
  Rest (Act _) = Unit {0}
  Rest (Skip unless count) = (t : Ty) × IsOf shape wires unless t
  Rest (Enter pou leaves memories first count) = Enters program body pou leaves memories first count
  Rest (Tell id number t wire) = Unit {0}

  abbrev pub IsGood : Step → Type 0
  IsGood s = IsTypedStep shapes program shape wires s × Rest s

  module _ (same : IsShapeOf body shape) where
    wire_within : (w : ℕ) (t : Ty) → HasValue wires w t → w < length wires
    wire_within w t h = slice_get_within wires w h.value h.is

    pub placed_within : (o : Operand) (t : Ty) → IsPlacedOf shape o t → IsPlaced body o
    placed_within (Leaf offset) t h = subst (λ n. offset < n) (sym same.leaves) (slice_get_within shape.leaves offset t h)
    placed_within (InOut j) t h = subst (λ n. j < n) (sym same.in_outs) (slice_get_within shape.in_outs j t h)

    memory_within : (m : ℕ) (t : Ty) → slice_get shape.memories m ≡ Some t → m < body.memories
    memory_within m t h = subst (λ n. m < n) (sym same.memories) (slice_get_within shape.memories m t h)

    source_within : (s : Source) (t : Ty) → IsOf shape wires s t → IsWithin body (length wires) s
    source_within (Constant v) t h = tt
    source_within (Wire w) t h = wire_within w t h
    source_within (Memory m) t h = memory_within m t h
    source_within (Variable o) t h = placed_within o t h

    action_sound : (a : Action) → IsTypedAction program shape wires a → Rest (Act a) → IsSoundAction program body (length wires) a
    action_sound (Fix source wire) h rest = (source_within source h.0 h.1, wire_within wire h.0 h.2)
    action_sound (Write to source) h rest = (placed_within to h.0 h.1, source_within source h.0 h.2)
    action_sound (Keep memory source) h rest = (memory_within memory h.0 h.1, source_within source h.0 h.2)
    action_sound (Not source wire) h rest = (source_within source ty.Bool h.0, wire_within wire ty.Bool h.1)
    action_sound (And left right wire) h rest = (source_within left ty.Bool h.0, source_within right ty.Bool h.1, wire_within wire ty.Bool h.2)
    action_sound (Or left right wire) h rest = (source_within left ty.Bool h.0, source_within right ty.Bool h.1, wire_within wire ty.Bool h.2)
    action_sound (Apply f t first count wire) h rest = (record { few = rest.0; there = rest.1; each = λ i a there. source_within a.source a.ty (h.1 i a there) }, wire_within wire h.0 h.3)
    action_sound (Standard k leaves) h rest =
        subst (λ n. leaves + length (pins k) ≤ n) (sym same.leaves)
        (last_within (pins k) leaves (length shape.leaves) (λ i p there. slice_get_within shape.leaves (leaves + i) p.ty (h i p there)) (pins_some k))

    step_sound : (s : Step) → IsGood s → IsSoundStep program body (length wires) s
    step_sound (Act a) h = action_sound a h.0 h.1
    step_sound (Skip unless count) h = source_within unless h.1.0 h.1.1
    step_sound (Enter pou leaves memories first count) h = h.1
    step_sound (Tell id number t wire) h = wire_within wire t h.0

    pub steps_sound : (steps : List Step) → Each IsGood steps → AreSoundSteps program body (length wires) steps
    steps_sound steps good i s there = step_sound s (each_get IsGood steps good i s there)

  pub steps_typed : (steps : List Step) → Each IsGood steps → AreTypedSteps shapes program shape wires steps
  steps_typed steps good i s there = (each_get IsGood steps good i s there).0

-- ---- on a ground

abbrev pub num : Ground → Numbering
num g = numbering g.project g.pou g.elements

abbrev pub shapes : Ground → List Shape
shapes g = map (types_of g.project) g.project

abbrev pub shape : Ground → Shape
shape g = types_of g.project g.pou

abbrev pub wires : Ground → List Value
wires g = network_wires g.elements

abbrev pub Good : Ground → Step → Type 0
Good g s = IsGood (shapes g) g.program (shape g) g.body (wires g) s

-- the source has the type, the wire, the operand
abbrev pub Sources : Ground → Source → Ty → Type 0
Sources g s t = IsOf (shape g) (wires g) s t

abbrev pub Wires : Ground → ℕ → Ty → Type 0
Wires g w t = HasValue (wires g) w t
