-- Bytes that are refused.
use Rattle.std.proofs.Common.{◌≡◌, ◌≤◌, ◌∙◌, ℕ, List, length, refl, sym, ap, subst}
use Rattle.plcx_types.specs.Limits.{max_text_bytes}
use Rattle.plcx_lex.specs.declared.error.TextError.{TextError}
use Rattle.plcx_lex.specs.declared.error.TextError.TheVariants as text
use Rattle.plcx_st.specs.declared.tree.Unit as tree
use Rattle.plcx_st.specs.Grammar.{limit}
use Rattle.plcx_st.specs.Stands.{StandsForUnit}
use Rattle.plcx_read.specs.Fails.{ReadFails}
use Rattle.plcx_conditions.specs.declared.broken.Condition.{Condition}
use Rattle.plcx_conditions.specs.declared.broken.Condition.TheVariants as condition
use Rattle.plcx_unit.specs.Refused.{Breaks as UnitBreaks, Refuses as UnitRefuses, fault_by}
use Rattle.plcx_unit.specs.declared.error.UnitFault.{UnitFault}
use Rattle.plcx_unit.specs.declared.error.UnitFault.TheVariants as fault
use Rattle.plcx_text_file.specs.Texts.{in_tokens, in_syntax, in_depth, in_unit, within, broken, rule_of}
use Rattle.plcx_text_file.specs.Refusals.{Refuses, RefusesBytes, of_reading, of_unit}
use Rattle.plcx_text_file.specs.declared.broken.TextFileError.{TextFileError}
use Rattle.plcx_text_file.specs.declared.broken.TextFileError.TheVariants.{Broken, NoMemory}

-- bytes that are no unit
pub refused_reading : (bytes : List ℕ) (e : TextError) → ReadFails bytes e → RefusesBytes bytes (of_reading e)
refused_reading bytes (text.Lex at) h = in_tokens h
refused_reading bytes (text.Syntax at) h = in_syntax h
refused_reading bytes (text.TooDeep at) h = in_depth h
refused_reading bytes text.NoMemory h = tt

-- a condition is told as it is named
told_as : (k : Condition) (at : ℕ) → of_unit (fault_by k at) ≡ Broken (broken (rule_of k) at)
told_as condition.Name at = refl
told_as condition.Types at = refl
told_as condition.Recursion at = refl
told_as condition.Literal at = refl

first_told : (bytes : List ℕ) (u : tree.Unit) (depth : ℕ) (f : UnitFault) → depth ≤ limit → StandsForUnit bytes u depth → UnitBreaks u f → RefusesBytes bytes (of_unit f)
first_told bytes u depth f le stands h =
    let b = h.first in
    subst (RefusesBytes bytes) (sym (ap of_unit h.named ∙ told_as b.condition b.at)) (in_unit u depth b le stands h.is_first)

-- a unit that isn't ready
pub refused_unit : (bytes : List ℕ) (u : tree.Unit) (depth : ℕ) (f : UnitFault) → depth ≤ limit → StandsForUnit bytes u depth → UnitRefuses u f → RefusesBytes bytes (of_unit f)
refused_unit bytes u depth (fault.Name at) le stands h = first_told bytes u depth (fault.Name at) le stands h
refused_unit bytes u depth (fault.WrongType at) le stands h = first_told bytes u depth (fault.WrongType at) le stands h
refused_unit bytes u depth (fault.Recursion at) le stands h = first_told bytes u depth (fault.Recursion at) le stands h
refused_unit bytes u depth (fault.Literal at) le stands h = first_told bytes u depth (fault.Literal at) le stands h
refused_unit bytes u depth fault.NoMemory le stands h = tt

-- a text that is short enough
pub short_refused : (bytes : List ℕ) → length bytes ≤ max_text_bytes → (e : TextFileError) → RefusesBytes bytes e → Refuses bytes e
short_refused bytes short (Broken b) h = within short h
short_refused bytes short NoMemory h = tt
