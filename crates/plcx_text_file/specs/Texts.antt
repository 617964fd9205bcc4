-- A text that is run: the unit that it is, or what it breaks first.
use Rattle.std.specs.Prelude.{ℕ, ◌≤◌, ◌<◌, List, length}
use Rattle.plcx_types.specs.Limits.{max_text_bytes}
use Rattle.plcx_meaning.specs.Ready.{IsReady}
use Rattle.plcx_lex.specs.Lexis.{IsLexPlace}
use Rattle.plcx_st.specs.declared.tree.Unit as tree
use Rattle.plcx_st.specs.Grammar.{limit}
use Rattle.plcx_st.specs.Meant.{meant}
use Rattle.plcx_st.specs.Place.{Syntax, TooDeep}
use Rattle.plcx_st.specs.Stands.{StandsForUnit}
use Rattle.plcx_read.specs.Fails.{IsFaultAt}
use Rattle.plcx_conditions.specs.declared.broken.Broken as unit
use Rattle.plcx_conditions.specs.declared.broken.Condition.{Condition}
use Rattle.plcx_conditions.specs.declared.broken.Condition.TheVariants as condition
use Rattle.plcx_conditions.specs.Broken.{IsFirst}
use Rattle.plcx_conditions.specs.Declarations.{broken_in}
use Rattle.plcx_conditions.specs.Places.{placed}
use Rattle.plcx_text_file.specs.declared.broken.BrokenText.{BrokenText}
use Rattle.plcx_text_file.specs.declared.broken.TextRule.{TextRule}
use Rattle.plcx_text_file.specs.declared.broken.TextRule.TheVariants as rule

-- the rule is broken at the byte
abbrev pub broken : TextRule → ℕ → BrokenText
broken rule at = record { rule = rule; at = at }

-- the rule of a condition of units
abbrev pub rule_of : Condition → TextRule
rule_of condition.Name = rule.Name
rule_of condition.Types = rule.Types
rule_of condition.Recursion = rule.Recursion
rule_of condition.Literal = rule.Literal

-- bytes stand for this unit, which is no deeper than one may be and ready to run
pub record Keeps (bytes : List ℕ) (u : tree.Unit) : Type 0 where
  pub depth : ℕ
  pub within : depth ≤ limit
  pub stands : StandsForUnit bytes u depth
  pub ready : IsReady (meant u)

-- What bytes break first: they are not made of tokens, or the tokens are no unit, or none within the depth; or the unit breaks a condition.
pub data Breaks (bytes : List ℕ) : BrokenText → Type 0 where
  in_tokens : {at : ℕ} → IsLexPlace bytes at → Breaks bytes (broken rule.Lex at)
  in_syntax : {at : ℕ} → IsFaultAt bytes Syntax at → Breaks bytes (broken rule.Syntax at)
  in_depth : {at : ℕ} → IsFaultAt bytes TooDeep at → Breaks bytes (broken rule.Depth at)
  in_unit : (u : tree.Unit) (depth : ℕ) (b : unit.Broken) → depth ≤ limit → StandsForUnit bytes u depth → IsFirst (broken_in (placed u)) b
      → Breaks bytes (broken (rule_of b.condition) b.at)

-- A text of this unit, whose length is looked at first.
pub record IsReadyText (bytes : List ℕ) (u : tree.Unit) : Type 0 where
  pub short : length bytes ≤ max_text_bytes
  pub keeps : Keeps bytes u

-- What a text breaks first, its length before all.
pub data TextBreaks (bytes : List ℕ) : BrokenText → Type 0 where
  too_long : max_text_bytes < length bytes → TextBreaks bytes (broken rule.Length max_text_bytes)
  within : {b : BrokenText} → length bytes ≤ max_text_bytes → Breaks bytes b → TextBreaks bytes b
