-- What prepared texts do, over the numbers of leaves and wires.
use Rattle.std.specs.Prelude.{ℕ, zero, suc, ◌+◌, ℤ, Bool, List, [], ◌∷◌, Option, Some, None, slice_get, slice_range, length, if◌then◌else◌}
use Rattle.std.specs.declared.result.Result.{Result}
use Rattle.std.specs.declared.result.Result.TheVariants.{Ok, Err}
use Rattle.plcx_types.specs.declared.fault.Fault.{Fault}
use Rattle.plcx_types.specs.Value.{Value}
use Rattle.plcx_meaning.specs.Base.{is_true, Faulted, OutOfTurns, Outcome, Ended, Stopped, Stuck, then_do, spend, found}
use Rattle.plcx_meaning.specs.Execute.{selects}
use Rattle.plcx_steps.specs.declared.program.Source.{Source}
use Rattle.plcx_steps.specs.declared.program.Program.{Program}
use Rattle.plcx_steps.specs.declared.program.Instance.{Instance}
use Rattle.plcx_steps.specs.Numbered.{Here, here_at, Cells, cells, read, bound_at, acted}
use Rattle.plcx_steps.specs.Sound.{origin}
use Rattle.plcx_text_steps.specs.declared.text.Line.{Line}
use Rattle.plcx_text_steps.specs.declared.text.Line.TheVariants.{Act, Call, If, While, Case}
use Rattle.plcx_text_steps.specs.declared.text.Arm.{Arm}
use Rattle.plcx_text_steps.specs.declared.text.Section.{Section}
use Rattle.plcx_text_steps.specs.declared.text.Entry.{Entry}
use Rattle.plcx_text_steps.specs.declared.text.Text.{Text}

-- what a scan changes: the values of leaves and of memories, and the turns that are left
pub record Numbers : Type 0 where
  pub values : List Value
  pub memories : List Value
  pub left : ℕ

-- how the section of a number is evaluated somewhere, with these wires
abbrev pub Sections : Type 0
Sections = Here → ℕ → Numbers → List Value → Outcome Numbers (List Value)

-- what actions read and change
abbrev pub cells_of : Numbers → List Value → Cells
cells_of n ws = cells n.values n.memories ws

-- an action as a piece of a scan
abbrev pub with_cells : Result Cells Fault → Numbers → Outcome Numbers (List Value)
with_cells (Ok c) n = Ended (record n { values = c.values; memories = c.memories }) c.wires
with_cells (Err fault) n = Stopped (Faulted fault) n

-- a test is TRUE
abbrev pub is_on : Here → Source → Numbers → List Value → Bool
is_on here test n ws = is_true (read here (cells_of n ws) test)

-- ---- calls

-- an instance within an instance; a text has no memories but leaves
abbrev pub inner : Instance → ℕ → Instance
inner at leaves = record { leaves = at.leaves + leaves; memories = at.memories }

-- where a POU is evaluated that is called from somewhere
abbrev pub callee : Here → (pou leaves first count : ℕ) → Here
callee here pou leaves first count = here_at here.program here.time pou (inner here.at leaves) (bound_at here first count)

-- a POU: its wires begin anew, and are gone afterwards
abbrev pub entered : Sections → Text → Here → Numbers → Outcome Numbers (Unit {0})
entered sections text here n = found (slice_get text.entries.items here.pou) (λ (e : Entry). then_do (sections here e.section n e.wires.items) (λ m ws. Ended m tt))

-- ---- choices and loops

-- the section of the first arm with the number as its label
abbrev pub choice : List Arm → ℤ → Option ℕ
choice [] n = None
choice (a ∷ arms) n = if selects n a.label then Some a.section else choice arms n

-- a CASE without the label does nothing
abbrev pub case_does : Sections → Here → Option ℕ → Numbers → List Value → Outcome Numbers (List Value)
case_does sections here None n ws = Ended n ws
case_does sections here (Some k) n ws = sections here k n ws

-- A loop: what stands before the test, the test, and a turn of the budget where it is TRUE. The first number only bounds the recursion; it is the number of
-- turns that are left.
abbrev pub turns : ℕ → (Numbers → List Value → Outcome Numbers (List Value)) → (Numbers → List Value → Bool) → (Numbers → List Value → Outcome Numbers (List Value))
    → Numbers → List Value → Outcome Numbers (List Value)
turns zero before test body n ws = then_do (before n ws) (λ m vs. if test m vs then Stopped OutOfTurns m else Ended m vs)
turns (suc fuel) before test body n ws =
    then_do (before n ws) (λ m vs.
    if test m vs then spend m.left m (λ left. then_do (body (record m { left = left }) vs) (turns fuel before test body)) else Ended m vs)

-- ---- lines

-- one line
abbrev pub line_does : Sections → Text → Here → Line → Numbers → List Value → Outcome Numbers (List Value)
line_does sections text here (Act action) n ws = with_cells (acted here action (cells_of n ws)) n
line_does sections text here (Call pou leaves first count) n ws = then_do (entered sections text (callee here pou leaves first count) n) (λ m u. Ended m ws)
line_does sections text here (If test k) n ws = if is_on here test n ws then sections here k n ws else Ended n ws
line_does sections text here (While before test k) n ws = turns n.left (sections here before) (is_on here test) (sections here k) n ws
line_does sections text here (Case source first count) n ws =
    case_does sections here (choice (slice_range text.arms.items first (first + count)) (read here (cells_of n ws) source)) n ws

-- lines one after another
abbrev pub lines_do : Sections → Text → Here → List Line → Numbers → List Value → Outcome Numbers (List Value)
lines_do sections text here [] n ws = Ended n ws
lines_do sections text here (l ∷ ls) n ws = then_do (line_does sections text here l n ws) (lines_do sections text here ls)

-- the section of a number, with so many levels of sections below
abbrev pub section_does : ℕ → Text → Sections
section_does zero text here k n ws = Stuck
section_does (suc depth) text here k n ws = found (slice_get text.sections.items k) (λ (s : Section). lines_do (section_does depth text) text here s.lines.items n ws)

-- one scan of a POU as the program; a section mentions lower ones, so there are no more levels than sections
abbrev pub text_does : Program → Text → (time : ℤ) → (pou : ℕ) → Numbers → Outcome Numbers (Unit {0})
text_does program text time pou n = entered (section_does (length text.sections.items) text) text (here_at program time pou origin []) n
