-- What the tokens of a text give is what the text stands for.
use Rattle.std.proofs.Common.{◌≡◌, ◌≤◌, ℕ, List, length, Result, Ok, Err, refl, sym, ap, subst, ◌∙◌, max, arith}
use Rattle.plcx_lex.specs.Token.{Token}
use Rattle.plcx_lex.specs.Lexis.{AreTextTokens}
use Rattle.plcx_lex.proofs.MadeLaws.{one_tokens}
use Rattle.plcx_st.specs.declared.tree.Unit as tree
use Rattle.plcx_st.specs.declared.tree.PouText.{PouText}
use Rattle.plcx_st.specs.Grammar.{limit, ArePous}
use Rattle.plcx_lex.specs.declared.error.TextError.{TextError}
use Rattle.plcx_lex.specs.declared.error.TextError.TheVariants as text
use Rattle.plcx_st.specs.Place.{Fault, Syntax, TooDeep, IsPlace, start_of}
use Rattle.plcx_st.specs.Stands.{StandsForUnit}
use Rattle.plcx_read.specs.Reading.{syntax, too_deep, told_too_deep, Stop, pous}
use Rattle.plcx_read.specs.Gives.{located, Fails}
use Rattle.plcx_read.specs.Fails.{IsRead, ReadFails}
use Rattle.plcx_read.proofs.CompleteUnits.{complete_unit}
use Rattle.plcx_read.proofs.SoundUnits.{pous_sound}
use Rattle.plcx_read.proofs.Places.{Placed, error_at, pous_place}

abbrev done : {A : Type 0} → A → Result A Stop
done x = Ok x

ok_is : {A : Type 0} (x y : A) → done x ≡ done y → x ≡ y
ok_is x y h = cc

-- what stands for a unit is read from its tokens
pub reads : (bytes : List ℕ) (ts : List Token) (u : tree.Unit) (d : ℕ) → AreTextTokens bytes ts → d ≤ limit → StandsForUnit bytes u d → pous limit ts ≡ Ok u.pous
reads bytes ts u d made le stands =
    let same = one_tokens bytes stands.tokens ts stands.made made in
    complete_unit limit ts u.pous d (subst (λ (l : List Token). ArePous l u.pous d) same stands.is) le

pub read_only : (ts : List Token) (ps : List PouText) (u : tree.Unit) → pous limit ts ≡ Ok ps → pous limit ts ≡ Ok u.pous → IsRead (Ok (record { pous = ps })) u
read_only ts ps u h g = let same : ps ≡ u.pous = ok_is ps u.pous (sym h ∙ g) in ap (λ (l : List PouText). record { pous = l }) same

error_reads : (end' : ℕ) (e : TextError) (u : tree.Unit) → Fails end' e (done u.pous) → IsRead (Err e) u
error_reads end' text.NoMemory u h = tt
error_reads end' (text.Lex at) u h = h
error_reads end' (text.Syntax at) u h = h
error_reads end' (text.TooDeep at) u h = h

pub error_only : (ts us : List Token) (end' : ℕ) (e : TextError) (u : tree.Unit) → us ≡ ts → Fails end' e (pous limit us) → pous limit ts ≡ Ok u.pous → IsRead (Err e) u
error_only ts us end' e u same h g = error_reads end' e u (subst (λ (r : Result (List PouText) Stop). Fails end' e r) (ap (λ w. pous limit w) same ∙ g) h)

-- a fault of the tokens is a fault of the text
stands_at : (bytes : List ℕ) (ts : List Token) (f : Stop) (p : Placed limit ts f) → AreTextTokens bytes ts → ReadFails bytes (error_at p.fault (start_of p.rest (length bytes)))
stands_at bytes ts f p made = kind p.fault p.is
  where
    kind : (k : Fault) → IsPlace limit p.before p.rest k → ReadFails bytes (error_at k (start_of p.rest (length bytes)))
    kind Syntax is = (p.before, p.rest, subst (AreTextTokens bytes) p.parts made, is, refl)
    kind TooDeep is = (p.before, p.rest, subst (AreTextTokens bytes) p.parts made, is, refl)

never_lex : (end' at : ℕ) (f : Stop) → text.Lex at ≡ located end' f.0 f.1 → ⊥
never_lex end' at (syntax, ts) h = absurd cc
never_lex end' at (too_deep, ts) h = absurd cc
never_lex end' at (told_too_deep w, ts) h = absurd cc

error_places : (bytes : List ℕ) (ts : List Token) (e : TextError) (r : Result (List PouText) Stop) → AreTextTokens bytes ts → pous limit ts ≡ r → Fails (length bytes) e r → ReadFails bytes e
error_places bytes ts text.NoMemory r made is h = tt
error_places bytes ts (text.Lex at) (Ok y) made is h = absurd h
error_places bytes ts (text.Lex at) (Err f) made is h = absurd (never_lex (length bytes) at f h)
error_places bytes ts (text.Syntax at) (Ok y) made is h = absurd h
error_places bytes ts (text.Syntax at) (Err f) made is h = (let p = pous_place 255 ts f is in subst (λ (e : TextError). ReadFails bytes e) (sym (h ∙ p.error (length bytes))) (stands_at bytes ts f p made))
error_places bytes ts (text.TooDeep at) (Ok y) made is h = absurd h
error_places bytes ts (text.TooDeep at) (Err f) made is h = (let p = pous_place 255 ts f is in subst (λ (e : TextError). ReadFails bytes e) (sym (h ∙ p.error (length bytes))) (stands_at bytes ts f p made))

pub error_fails : (bytes : List ℕ) (ts : List Token) (e : TextError) → AreTextTokens bytes ts → Fails (length bytes) e (pous limit ts) → ReadFails bytes e
error_fails bytes ts e made h = error_places bytes ts e (pous limit ts) made refl h

-- what was read from the tokens stands for the text
pub found : (bytes : List ℕ) (ts : List Token) (ps : List PouText) → AreTextTokens bytes ts → pous limit ts ≡ Ok ps → (d : ℕ) × (d ≤ limit) × StandsForUnit bytes (record { pous = ps }) d
found bytes ts ps made h = let s = pous_sound limit ts ps h in (s.0, s.1, record { tokens = ts; made = made; is = s.2 })

-- a text stands for one unit at most
pub one_text : (bytes : List ℕ) (u v : tree.Unit) (d c : ℕ) → StandsForUnit bytes u d → StandsForUnit bytes v c → u ≡ v
one_text bytes u v d c a b =
    let same = one_tokens bytes b.tokens a.tokens b.made a.made in
    let first = complete_unit (max d c) a.tokens u.pous d a.is (omega arith) in
    let second = complete_unit (max d c) a.tokens v.pous c (subst (λ (l : List Token). ArePous l v.pous c) same b.is) (omega arith) in
    let pous' : u.pous ≡ v.pous = ok_is u.pous v.pous (sym first ∙ second) in
    ap (λ (l : List PouText). record { pous = l }) pous'
