-- What the laws say, each of its subject.
use Rattle.std.specs.Prelude.{◌≡◌, ℕ, pos, ◌+◌, ◌≤◌, List, [], Some, length, map, slice_get}
use Rattle.plcx_types.specs.declared.ty.Ty.{Ty}
use Rattle.plcx_types.specs.Lists.{Each}
use Rattle.plcx_types.specs.Value.{Value}
use Rattle.plcx_meaning.specs.Tree as tree
use Rattle.plcx_meaning.specs.Tree.{Expression, PouText}
use Rattle.plcx_meaning.specs.Typed.{variable_in, part_in, referent_type, member_type, expression_type}
use Rattle.plcx_meaning.specs.Execute.{referent, TextState, program_runs}
use Rattle.plcx_meaning.specs.Ready.{IsReady}
use Rattle.plcx_steps.specs.declared.program.Operand.TheVariants.{Leaf}
use Rattle.plcx_steps.specs.declared.program.Source.TheVariants.{Variable}
use Rattle.plcx_steps.specs.declared.program.Body.{Body}
use Rattle.plcx_steps.specs.declared.program.Program.{Program}
use Rattle.plcx_steps.specs.Sound.{IsWithin, IsSoundAction, origin}
use Rattle.plcx_steps.specs.Typed.{Shape, IsOf, IsTypedAction}
use Rattle.plcx_numbered.specs.Right.{HasAt}
use Rattle.plcx_text_steps.specs.declared.text.Line.{Line}
use Rattle.plcx_text_steps.specs.declared.text.Line.TheVariants.{Act}
use Rattle.plcx_text_steps.specs.declared.text.Text.{Text}
use Rattle.plcx_text_steps.specs.Numbered.{Numbers, text_does}
use Rattle.plcx_text_steps.specs.Sound.{IsSound, Stands}
use Rattle.plcx_text_steps.specs.Typed.{IsTyped}
use Rattle.plcx_text_steps.specs.Running.{StandsTyped}
use Rattle.plcx_text_numbered.specs.Agreeing.{Agree, Alike, Nothing}
use Rattle.plcx_text_numbered.specs.Statements.{IsPrepared}
use Rattle.plcx_text_numbered.specs.Numbers.{plan_of, plans_of}
use Rattle.plcx_text_numbered.specs.Prepared.{Numbering, place_source, source_of, arguments_of, lines_of}
use Rattle.plcx_text_numbered.specs.Texts.{HasWires, IsTextOf}
use Rattle.plcx_text_runnable.specs.Shapes.{types_of, shapes_of}

-- a body has the leaves, memories and in-outs whose types are these
pub record IsShapeOf (body : Body) (shape : Shape) : Type 0 where
  pub leaves : body.leaves ≡ length shape.leaves
  pub memories : body.memories ≡ length shape.memories
  pub in_outs : body.in_outs ≡ length shape.in_outs

-- what stands for a name, and for an output of an instance, has its type
pub record AreTypedNumbers (c : Numbering) (shape : Shape) (wires : List Value) : Type 0 where
  pub names : (x : List ℕ) (t : Ty) → referent_type (referent c.scope.world (variable_in c.scope x)) ≡ Some t → IsOf shape wires (place_source (c.place x)) t
  pub members : (i x : List ℕ) (t : Ty) → member_type c.scope.world (part_in c.scope i x) ≡ Some t → IsOf shape wires (Variable (Leaf (c.inner i x))) t

-- a line is an action that can be run
abbrev pub CanRun : Program → Body → Shape → List Value → Line → Type 0
CanRun program body shape wires (Act action) = IsTypedAction program shape wires action × IsSoundAction program body (length wires) action
CanRun program body shape wires _ = ⊥

-- The lines of an expression of a type are actions that can be run, and its source lies within the body and has the type.
abbrev pub ExpressionsCanRun : Type 0
ExpressionsCanRun =
    (program : Program) (body : Body) (shape : Shape) (wires : List Value) (c : Numbering) → IsShapeOf body shape → AreTypedNumbers c shape wires
    → (e : Expression) (t : Ty) → expression_type c.scope e ≡ Some t
    → (first wire : ℕ) → first ≤ length program.arguments.items → HasAt program.arguments.items first (arguments_of c wire e) → HasWires c wires wire e
    → Each (CanRun program body shape wires) (lines_of c first wire e)
    × IsOf shape wires (source_of c wire e) t × IsWithin body (length wires) (source_of c wire e)

-- What is prepared of a ready unit has a body for each of its POUs.
abbrev pub BodiesThere : Type 0
BodiesThere = (unit : List PouText) (program : Program) (text : Text) → ∥ IsTextOf unit program text ∥₁ → length program.bodies.items ≡ length unit

-- What is prepared of a ready unit has the right numbers.
abbrev pub PreparedRight : Type 0
PreparedRight = (unit : List PouText) (program : Program) (text : Text) → IsReady unit → IsTextOf unit program text → IsPrepared unit (plans_of unit) program text

-- So a scan of a program of it is alike the unit's, wherever their states agree before.
abbrev pub TextsAlike : Type 0
TextsAlike =
    (unit : List PouText) (program : Program) (text : Text) → IsReady unit → IsTextOf unit program text
    → (k : ℕ) (p : PouText) → slice_get unit k ≡ Some p → p.kind ≡ tree.Program
    → (time : ℕ) (g : TextState) (n : Numbers) → Agree (plan_of unit p).plan.paths g n
    → Alike (plan_of unit p).plan.paths Nothing (program_runs time unit p g) (text_does program text (pos time) k n)

-- What is prepared of a ready unit can be run: its numbers lie where they have to and its calls lead down, and it uses each place at the type that is
-- declared.
abbrev pub PreparedCanRun : Type 0
PreparedCanRun =
    (unit : List PouText) (program : Program) (text : Text) → ∥ IsReady unit ∥₁ → ∥ IsTextOf unit program text ∥₁
    → IsSound program text × IsTyped (shapes_of unit) program text

-- A program of it stands at the origin, and has its types there, where the values have the types of its leaves, and there are wires and in-outs enough.
abbrev pub ProgramsStand : Type 0
ProgramsStand =
    (unit : List PouText) (program : Program) (text : Text) → ∥ IsReady unit ∥₁ → ∥ IsTextOf unit program text ∥₁
    → (k : ℕ) (p : PouText) (body : Body) → slice_get unit k ≡ Some p → p.kind ≡ tree.Program → slice_get program.bodies.items k ≡ Some body
    → (values memories : List Value) → map (λ (v : Value). v.ty) values ≡ (types_of unit p).leaves → map (λ (v : Value). v.ty) memories ≡ (types_of unit p).memories
    → (wires in_outs : ℕ) → body.first_wire + body.width ≤ wires → body.first_in_out ≤ in_outs
    → Stands program text (length text.sections.items) k origin [] (length values) (length memories) wires in_outs × StandsTyped program text k origin [] values memories
