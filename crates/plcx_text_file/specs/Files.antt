-- A file that is read as a text. What the desk doesn't tell of a file is not known here either.
use Rattle.std.specs.Prelude.{ℕ, ◌<◌, List, length, Option, IfSome, ⊤}
use Rattle.plcx_io.specs.Told.{Tells}
use Rattle.plcx_types.specs.Limits.{max_text_bytes}
use Rattle.plcx_st.specs.declared.tree.Unit as tree
use Rattle.plcx_text_file.specs.Texts.{IsReadyText, TextBreaks, broken}
use Rattle.plcx_text_file.specs.declared.broken.BrokenText.{BrokenText}
use Rattle.plcx_text_file.specs.declared.broken.TextReadError.{TextReadError}
use Rattle.plcx_text_file.specs.declared.broken.TextReadError.TheVariants.{Read, Broken, NoMemory}
use Rattle.plcx_text_file.specs.declared.broken.TextRule.TheVariants as rule

-- the file is a text of this unit, which is ready
pub record IsTextFile (told : Option (List ℕ)) (u : tree.Unit) : Type 0 where
  pub bytes : List ℕ
  pub tells : Tells told bytes
  pub is : IsReadyText bytes u

-- the text of the file breaks this first
pub data IsBrokenFile (told : Option (List ℕ)) : BrokenText → Type 0 where
  too_long : IfSome told (λ bytes. max_text_bytes < length bytes) → IsBrokenFile told (broken rule.Length max_text_bytes)
  breaks : (bytes : List ℕ) {b : BrokenText} → Tells told bytes → TextBreaks bytes b → IsBrokenFile told b

-- why a file gives no unit: it can't be read, or its text breaks something; want of memory at any time
abbrev pub WhyNoText : Option (List ℕ) → (rose : Type 0) → TextReadError → Type 0
WhyNoText told rose Read = rose
WhyNoText told rose (Broken b) = IsBrokenFile told b
WhyNoText told rose NoMemory = ⊤
