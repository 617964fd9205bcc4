-- What a function of the reader returned is what reading gives, unless memory ran out.
use Rattle.std.specs.Prelude.{◌≡◌, ℕ, List, Result, Ok, Err}
use Rattle.plcx_lex.specs.Token.{Token}
use Rattle.plcx_lex.specs.declared.error.TextError.{TextError}
use Rattle.plcx_lex.specs.declared.error.TextError.TheVariants as text
use Rattle.plcx_st.specs.Place.{start_of}
use Rattle.plcx_read.specs.Reading.{Cause, syntax, too_deep, told_too_deep, Stop}

-- the error where reading stops, in a text of that length: a name that is told by the sign behind it is the place for both
abbrev pub located : ℕ → Cause → List Token → TextError
located end syntax ts = text.Syntax (start_of ts end)
located end too_deep ts = text.TooDeep (start_of ts end)
located end (told_too_deep w) ts = text.TooDeep w.span.start

abbrev pub Fails : {Y : Type 0} → ℕ → TextError → Result Y Stop → Type 0
Fails end text.NoMemory read = Unit {0}
Fails end e (Ok y) = ⊥
Fails end e (Err s) = e ≡ located end s.0 s.1

abbrev pub Gives : {X Y : Type 0} → ℕ → (X → Y) → Result X TextError → Result Y Stop → Type 0
Gives end view (Ok x) read = read ≡ Ok (view x)
Gives end view (Err e) read = Fails end e read
