-- What the laws say, each of its subject.
use Rattle.std.specs.Prelude.{◌≡◌, ℕ, ◌+◌, ◌<◌, ◌≤◌, pos, List, [], Some, length, slice_get}
use Rattle.plcx_types.specs.declared.ty.Ty.{Ty}
use Rattle.plcx_types.specs.Value.{Value}
use Rattle.plcx_meaning.specs.Base.{Path, Site}
use Rattle.plcx_meaning.specs.Tree.{Expression, PouText}
use Rattle.plcx_meaning.specs.Typed.{expression_type}
use Rattle.plcx_meaning.specs.Execute.{TextState, Frame, value_of, program_runs}
use Rattle.plcx_steps.specs.declared.program.Program.{Program}
use Rattle.plcx_steps.specs.Numbered.{Here}
use Rattle.plcx_steps.specs.Sound.{levels}
use Rattle.plcx_numbered.specs.Agreeing.{AreApart}
use Rattle.plcx_numbered.specs.Right.{HasAt}
use Rattle.plcx_text_steps.specs.declared.text.Text.{Text}
use Rattle.plcx_text_steps.specs.Numbered.{Numbers, Sections, lines_do, text_does}
use Rattle.plcx_text_numbered.specs.Agreeing.{Lies, SameInOuts, Agree, SameFrame, Alike, Nothing, Reads, Runs}
use Rattle.plcx_text_numbered.specs.Prepared.{Numbering, wires_of, source_of, arguments_of, lines_of}
use Rattle.plcx_text_numbered.specs.Right.{Plan, RightExpression}
use Rattle.plcx_text_numbered.specs.Setting.{setting}
use Rattle.plcx_text_numbered.specs.Statements.{PouPlan, IsPrepared}

-- An instance of a POU lies where a body is evaluated, and so does what its in-outs stand for; and the state and the temporaries agree.
pub record Stands (whole : List Path) (plan : Plan) (site : Site) (here : Here) (g : TextState) (f : Frame) (n : Numbers) (ws : List Value) : Type 0 where
  pub lies : Lies whole plan.paths site.path here.at.leaves
  pub in_outs : SameInOuts whole plan.in_outs site.bound here.in_outs
  pub agrees : Agree whole g n
  pub frame : SameFrame plan.temporaries f ws

-- Lines that are prepared of an expression with a type compute its value, whose source then has it, or stop at its fault. They change nothing but the wires
-- from the first of their own on.
abbrev pub ExpressionsAlike : Type 0
ExpressionsAlike =
    (whole : List Path) (plan : Plan) (c : Numbering) (site : Site) (sections : Sections) (text : Text) (here : Here) (g : TextState) (f : Frame) (n : Numbers) (ws : List Value)
    → Stands whole plan site here g f n ws
    → (e : Expression) (t : Ty) → expression_type c.scope e ≡ Some t → RightExpression plan c e
    → (first wire : ℕ) → HasAt here.program.arguments.items first (arguments_of c wire e) → length plan.temporaries ≤ wire → wire + wires_of e ≤ length ws
    → Runs n (Reads here n wire ws t (source_of c wire e)) (value_of e (setting c.scope site) g.store f) (lines_do sections text here (lines_of c first wire e) n ws)

-- A scan of a text that is prepared of a unit is alike the unit's: it ends, faults or runs out of turns as that does, and the leaves and the turns that are left
-- agree behind it as they did before.
abbrev pub ScansAlike : Type 0
ScansAlike =
    (unit : List PouText) (plans : List PouPlan) (program : Program) (text : Text) → IsPrepared unit plans program text
    → (own : PouPlan) (k : ℕ) → slice_get plans k ≡ Some own → own.level < levels → own.plan.in_outs ≡ [] → AreApart own.plan.paths
    → (time : ℕ) (g : TextState) (n : Numbers) → Agree own.plan.paths g n
    → Alike own.plan.paths Nothing (program_runs time unit own.pou g) (text_does program text (pos time) k n)
