-- Prepared texts that use each place at its type.
use Rattle.std.specs.Prelude.{◌≡◌, ℕ, List, Some, slice_get}
use Rattle.plcx_types.specs.Value.{Value}
use Rattle.plcx_steps.specs.declared.program.Program.{Program}
use Rattle.plcx_steps.specs.Typed.{Shape, IsTypedAction, IsTypedEntry}
use Rattle.plcx_text_steps.specs.declared.text.Line.{Line}
use Rattle.plcx_text_steps.specs.declared.text.Line.TheVariants.{Act, Call, If, While, Case}
use Rattle.plcx_text_steps.specs.declared.text.Section.{Section}
use Rattle.plcx_text_steps.specs.declared.text.Entry.{Entry}
use Rattle.plcx_text_steps.specs.declared.text.Text.{Text}

-- the types of a line, where the wires have those of these
abbrev pub IsTypedLine : List Shape → Program → Shape → List Value → Line → Type 0
IsTypedLine shapes program shape wires (Act action) = IsTypedAction program shape wires action
IsTypedLine shapes program shape wires (Call pou leaves first count) = IsTypedEntry shapes program shape pou leaves 0 first count
IsTypedLine shapes program shape wires (If test k) = Unit {0}
IsTypedLine shapes program shape wires (While before test k) = Unit {0}
IsTypedLine shapes program shape wires (Case source first count) = Unit {0}

-- of all lines
abbrev pub AreTypedLines : List Shape → Program → Shape → List Value → List Line → Type 0
AreTypedLines shapes program shape wires lines = (i : ℕ) (l : Line) → slice_get lines i ≡ Some l → IsTypedLine shapes program shape wires l

-- and of a text, the instances of whose POUs have these shapes
pub record IsTyped (shapes : List Shape) (program : Program) (text : Text) : Type 0 where
  pub sections : (k : ℕ) (s : Section) (shape : Shape) (e : Entry) → slice_get text.sections.items k ≡ Some s → slice_get shapes s.pou ≡ Some shape
      → slice_get text.entries.items s.pou ≡ Some e → AreTypedLines shapes program shape e.wires.items s.lines.items
