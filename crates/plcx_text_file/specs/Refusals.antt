-- Serves proofs: how bytes are refused.
use Rattle.std.specs.Prelude.{ℕ, List, ⊤}
use Rattle.plcx_lex.specs.declared.error.TextError.{TextError}
use Rattle.plcx_lex.specs.declared.error.TextError.TheVariants as text
use Rattle.plcx_unit.specs.declared.error.UnitFault.{UnitFault}
use Rattle.plcx_unit.specs.declared.error.UnitFault.TheVariants as fault
use Rattle.plcx_text_file.specs.Texts.{Breaks, TextBreaks, broken}
use Rattle.plcx_text_file.specs.declared.broken.TextFileError.{TextFileError}
use Rattle.plcx_text_file.specs.declared.broken.TextFileError.TheVariants.{Broken, NoMemory}
use Rattle.plcx_text_file.specs.declared.broken.TextRule.TheVariants as rule

-- why bytes are refused that are no unit
abbrev pub of_reading : TextError → TextFileError
of_reading (text.Lex at) = Broken (broken rule.Lex at)
of_reading (text.Syntax at) = Broken (broken rule.Syntax at)
of_reading (text.TooDeep at) = Broken (broken rule.Depth at)
of_reading text.NoMemory = NoMemory

-- why a unit is refused that isn't ready
abbrev pub of_unit : UnitFault → TextFileError
of_unit (fault.Name at) = Broken (broken rule.Name at)
of_unit (fault.WrongType at) = Broken (broken rule.Types at)
of_unit (fault.Recursion at) = Broken (broken rule.Recursion at)
of_unit (fault.Literal at) = Broken (broken rule.Literal at)
of_unit fault.NoMemory = NoMemory

-- bytes break this first, whatever their length; want of memory at any time
abbrev pub RefusesBytes : List ℕ → TextFileError → Type 0
RefusesBytes bytes (Broken b) = Breaks bytes b
RefusesBytes bytes NoMemory = ⊤

-- a text breaks this first; want of memory at any time
abbrev pub Refuses : List ℕ → TextFileError → Type 0
Refuses bytes (Broken b) = TextBreaks bytes b
Refuses bytes NoMemory = ⊤
