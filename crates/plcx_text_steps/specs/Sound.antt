-- Prepared texts whose numbers lie where they have to.
use Rattle.std.specs.Prelude.{◌≡◌, ℕ, ◌+◌, ◌<◌, ◌≤◌, List, Some, length, slice_get, slice_range}
use Rattle.plcx_steps.specs.declared.program.Body.{Body}
use Rattle.plcx_steps.specs.declared.program.Program.{Program}
use Rattle.plcx_steps.specs.declared.program.Instance.{Instance}
use Rattle.plcx_steps.specs.Sound.{IsWithin, IsSoundAction, Enters, HasRoom}
use Rattle.plcx_text_steps.specs.declared.text.Line.{Line}
use Rattle.plcx_text_steps.specs.declared.text.Line.TheVariants.{Act, Call, If, While, Case}
use Rattle.plcx_text_steps.specs.declared.text.Arm.{Arm}
use Rattle.plcx_text_steps.specs.declared.text.Section.{Section}
use Rattle.plcx_text_steps.specs.declared.text.Entry.{Entry}
use Rattle.plcx_text_steps.specs.declared.text.Text.{Text}

-- there is a section of the number, which is low enough, and it is part of the POU
pub record HasSection (text : Text) (below pou number : ℕ) : Type 0 where
  pub section : Section
  pub is : slice_get text.sections.items number ≡ Some section
  pub part : section.pou ≡ pou
  pub low : number < below

-- the POU that is called begins with a section that is low enough
pub record Begins (text : Text) (below pou : ℕ) : Type 0 where
  pub entry : Entry
  pub is : slice_get text.entries.items pou ≡ Some entry
  pub section : HasSection text below pou entry.section

-- the arms of a CASE, so many from the first on
pub record AreArms (text : Text) (below pou first count : ℕ) : Type 0 where
  pub there : first + count ≤ length text.arms.items
  pub each : (i : ℕ) (a : Arm) → slice_get (slice_range text.arms.items first (first + count)) i ≡ Some a → HasSection text below pou a.section

-- the numbers of a line of a body, which mentions sections below this number
abbrev pub IsSoundLine : Program → Text → ℕ → ℕ → Body → Line → Type 0
IsSoundLine program text below pou body (Act action) = IsSoundAction program body body.width action
IsSoundLine program text below pou body (Call callee leaves first count) = Enters program body callee leaves 0 first count × Begins text below callee
IsSoundLine program text below pou body (If test k) = IsWithin body body.width test × HasSection text below pou k
IsSoundLine program text below pou body (While before test k) = HasSection text below pou before × IsWithin body body.width test × HasSection text below pou k
IsSoundLine program text below pou body (Case source first count) = IsWithin body body.width source × AreArms text below pou first count

-- the numbers of all lines
abbrev pub AreSoundLines : Program → Text → ℕ → ℕ → Body → List Line → Type 0
AreSoundLines program text below pou body lines = (i : ℕ) (l : Line) → slice_get lines i ≡ Some l → IsSoundLine program text below pou body l

-- the numbers of a text: those of each section of each POU, and as many wires as the body has
pub record IsSound (program : Program) (text : Text) : Type 0 where
  pub sections : (k : ℕ) (s : Section) (body : Body) → slice_get text.sections.items k ≡ Some s → slice_get program.bodies.items s.pou ≡ Some body
      → AreSoundLines program text k s.pou body s.lines.items
  pub wires : (k : ℕ) (e : Entry) (body : Body) → slice_get text.entries.items k ≡ Some e → slice_get program.bodies.items k ≡ Some body → length e.wires.items ≡ body.width

-- the POU of a number is there, at a place with room for it, and begins below this number of sections
pub record Stands (program : Program) (text : Text) (depth pou : ℕ) (at : Instance) (in_outs : List ℕ) (values memories wires below : ℕ) : Type 0 where
  pub body : Body
  pub is : slice_get program.bodies.items pou ≡ Some body
  pub begins : Begins text depth pou
  pub room : HasRoom body at in_outs values memories
  pub frame : body.first_wire + body.width ≤ wires
  pub in_out_frame : body.first_in_out ≤ below
