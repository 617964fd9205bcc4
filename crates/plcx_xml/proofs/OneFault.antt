-- A file has one first fault.
use Rattle.std.proofs.Common.{◌≡◌, ℕ, ◌+◌, Bool, List, [], ◌∷◌, ◌++◌, length, drop, refl, ap, sym, subst, ◌∙◌, ◌⊎◌, inl, inr, arith, None, Some}
use Rattle.std.proofs.lemmas.Str.{utf8_valid_len-IsValidUpTo}
use Rattle.plcx_xml.specs.Character.{front_of}
use Rattle.plcx_xml.specs.Grammar.{StandsAt, AreTokens}
use Rattle.plcx_xml.specs.Nesting.{Place, outset, settled, step, run, any_depth, below_limit}
use Rattle.plcx_xml.specs.StandsForTree.{mark_len}
use Rattle.plcx_xml.specs.Faults.{IsTokenPlace, IsFirstRefused, IsUnended, Fails}
use Rattle.plcx_xml.specs.declared.token.Token.{Token}
use Rattle.plcx_xml.specs.declared.error.XmlError.{XmlError}
use Rattle.plcx_xml.specs.declared.error.XmlError.TheVariants as xml
use Rattle.plcx_xml.proofs.Steps.{bind_some, some_inj, some-none}
use Rattle.plcx_xml.proofs.Reached.{offset-next, mark-offset}
use Rattle.plcx_xml.proofs.OneFile.{here-one, file-tokens-one, refused-run, open-not, no-token}

-- no token stands before these bytes, which end where the whole ends
abbrev Nowhere : ℕ → List ℕ → Type 0
Nowhere last rest = (o : ℕ) → o + length rest ≡ last → (t : Token) (after : List ℕ) → StandsAt o rest t after → ⊥

-- tokens stop at one place
stops-one : (last at : ℕ) (bytes : List ℕ) (ts us : List Token) (x y : List ℕ) → AreTokens at bytes ts x → AreTokens at bytes us y → at + length bytes ≡ last → Nowhere last x → Nowhere last y → x ≡ y
stops-one last at bytes [] [] x y h k l n m = sym h ∙ k
stops-one last at bytes [] (u ∷ us) x y h k l n m =
    absurd (n at (subst (λ (xs : List ℕ). at + length xs ≡ last) h l) u k.0 (subst (λ (xs : List ℕ). StandsAt at xs u k.0) h k.1))
stops-one last at bytes (t ∷ ts) [] x y h k l n m =
    absurd (m at (subst (λ (xs : List ℕ). at + length xs ≡ last) k l) t h.0 (subst (λ (xs : List ℕ). StandsAt at xs t h.0) k h.1))
stops-one last at bytes (t ∷ ts) (u ∷ us) x y h k l n m =
    let same = here-one last at bytes t u h.0 k.0 h.1 k.1 l in
    let more : AreTokens t.span.end h.0 us y = subst (λ (z : Token × List ℕ). AreTokens z.0.span.end z.1 us y) same k.2 in
    stops-one last t.span.end h.0 ts us x y h.2 more (offset-next last at bytes t h.0 h.1 l) n m

nowhere : (bytes : List ℕ) (at : ℕ) (p : IsTokenPlace bytes at) → Nowhere (length (front_of bytes)) p.rest
nowhere bytes at p o e t after h =
    let here = p.here in
    let same : o ≡ at = omega arith in
    p.none t after (subst (λ (n : ℕ). StandsAt n p.rest t after) same h)

token-one : (bytes : List ℕ) (at other : ℕ) → IsTokenPlace bytes at → IsTokenPlace bytes other → at ≡ other
token-one bytes at other p q =
    let front = front_of bytes in
    let same = stops-one (length front) (mark_len front) (drop (mark_len front) front) p.tokens q.tokens p.rest q.rest p.front q.front (mark-offset front) (nowhere bytes at p) (nowhere bytes other q) in
    let long : length p.rest ≡ length q.rest = ap (λ (xs : List ℕ). length xs) same in
    let here = p.here in
    let there = q.here in
    omega arith

-- the first token that may not stand there is one
first-one : (allows : ℕ → Bool) (p : Place) (b d : List Token) (t u : Token) (x y : List Token) (q r : Place) → b ++ (t ∷ x) ≡ d ++ (u ∷ y) → run allows b p ≡ Some q → run allows d p ≡ Some r → step allows q t.kind ≡ None → step allows r u.kind ≡ None → t ≡ u
first-one allows p [] [] t u x y q r e h k n m = let same : t ≡ u = cc in same
first-one allows p [] (v ∷ d) t u x y q r e h k n m =
    let same : t ≡ v = cc in
    let at : q ≡ p = sym (some_inj p q h) in
    let b = bind_some (step allows p v.kind) (run allows d) r k in
    let none : step allows p v.kind ≡ None = subst (λ (w : Token). step allows p w.kind ≡ None) same (subst (λ (z : Place). step allows z t.kind ≡ None) at n) in
    absurd (some-none (step allows p v.kind) b.0 b.1 none)
first-one allows p (v ∷ b) [] t u x y q r e h k n m =
    let same : u ≡ v = cc in
    let at : r ≡ p = sym (some_inj p r k) in
    let a = bind_some (step allows p v.kind) (run allows b) q h in
    let none : step allows p v.kind ≡ None = subst (λ (w : Token). step allows p w.kind ≡ None) same (subst (λ (z : Place). step allows z u.kind ≡ None) at m) in
    absurd (some-none (step allows p v.kind) a.0 a.1 none)
first-one allows p (v ∷ b) (w ∷ d) t u x y q r e h k n m =
    let head : v ≡ w = cc in
    let tail : b ++ (t ∷ x) ≡ d ++ (u ∷ y) = cc in
    let a = bind_some (step allows p v.kind) (run allows b) q h in
    let c = bind_some (step allows p w.kind) (run allows d) r k in
    let same : a.0 ≡ c.0 = some_inj a.0 c.0 (sym a.1 ∙ (ap (λ (z : Token). step allows p z.kind) head ∙ c.1)) in
    let own : run allows d a.0 ≡ Some r = subst (λ (z : Place). run allows d z ≡ Some r) (sym same) c.2 in
    first-one allows a.0 b d t u x y q r tail a.2 own n m

refused-one : (allows : ℕ → Bool) (ts us : List Token) (at other : ℕ) → ts ≡ us → IsFirstRefused allows ts at → IsFirstRefused allows us other → at ≡ other
refused-one allows ts us at other e f g =
    let same = first-one allows outset f.before g.before f.token g.token f.after g.after f.place g.place (sym f.parted ∙ (e ∙ g.parted)) f.ran g.ran f.refused g.refused in
    f.start ∙ (ap (λ (t : Token). t.span.start) same ∙ sym g.start)

unended-not : (ts us : List Token) (at : ℕ) → ts ≡ us → IsUnended ts → IsFirstRefused any_depth us at → ⊥
unended-not ts us at e u f = some-none (run any_depth ts outset) u.place u.ran (ap (λ (xs : List Token). run any_depth xs outset) e ∙ refused-run any_depth us at f)

abbrev Nest : List ℕ → List Token → ℕ → Type 0
Nest bytes ts at = IsFirstRefused any_depth ts at ⊎ (IsUnended ts × (at ≡ length bytes))

nesting-one : (bytes : List ℕ) (ts us : List Token) (at other : ℕ) → ts ≡ us → Nest bytes ts at → Nest bytes us other → at ≡ other
nesting-one bytes ts us at other e (inl f) (inl g) = refused-one any_depth ts us at other e f g
nesting-one bytes ts us at other e (inl f) (inr g) = absurd (unended-not us ts at (sym e) g.0 f)
nesting-one bytes ts us at other e (inr f) (inl g) = absurd (unended-not ts us other e f.0 g)
nesting-one bytes ts us at other e (inr f) (inr g) = f.1 ∙ sym g.1

-- a file that nests has no fault of nesting
nested-not : (bytes : List ℕ) (ts us : List Token) (at : ℕ) → ts ≡ us → Nest bytes ts at → run any_depth us outset ≡ Some (settled []) → ⊥
nested-not bytes ts us at e (inl f) r = some-none (run any_depth us outset) (settled []) r (ap (λ (xs : List Token). run any_depth xs outset) (sym e) ∙ refused-run any_depth ts at f)
nested-not bytes ts us at e (inr f) r =
    let ran : run any_depth us outset ≡ Some f.0.place = ap (λ (xs : List Token). run any_depth xs outset) (sym e) ∙ f.0.ran in
    open-not f.0.place (some_inj f.0.place (settled []) (sym ran ∙ r)) f.0.open_

-- two faults of one file are the same, but for want of memory
pub fault-one : (bytes : List ℕ) (a b : XmlError) → (a ≡ xml.NoMemory → ⊥) → (b ≡ xml.NoMemory → ⊥) → Fails bytes a → Fails bytes b → a ≡ b
fault-one bytes xml.NoMemory b n m f g = absurd (n refl)
fault-one bytes (xml.NotUtf8 at) xml.NoMemory n m f g = absurd (m refl)
fault-one bytes (xml.NotUtf8 at) (xml.NotUtf8 other) n m f g = ap (λ (k : ℕ). xml.NotUtf8 k) (sym (utf8_valid_len-IsValidUpTo bytes at f.1) ∙ utf8_valid_len-IsValidUpTo bytes other g.1)
fault-one bytes (xml.NotUtf8 at) (xml.Token other) n m f g = absurd (f.0 g.0)
fault-one bytes (xml.NotUtf8 at) (xml.Nesting other) n m f g = absurd (f.0 g.1.text)
fault-one bytes (xml.NotUtf8 at) (xml.TooDeep other) n m f g = absurd (f.0 g.1.text)
fault-one bytes (xml.Token at) xml.NoMemory n m f g = absurd (m refl)
fault-one bytes (xml.Token at) (xml.NotUtf8 other) n m f g = absurd (g.0 f.0)
fault-one bytes (xml.Token at) (xml.Token other) n m f g = ap (λ (k : ℕ). xml.Token k) (token-one bytes at other f.1 g.1)
fault-one bytes (xml.Token at) (xml.Nesting other) n m f g = absurd (no-token bytes at g.0 g.1 f.1)
fault-one bytes (xml.Token at) (xml.TooDeep other) n m f g = absurd (no-token bytes at g.0 g.1 f.1)
fault-one bytes (xml.Nesting at) xml.NoMemory n m f g = absurd (m refl)
fault-one bytes (xml.Nesting at) (xml.NotUtf8 other) n m f g = absurd (g.0 f.1.text)
fault-one bytes (xml.Nesting at) (xml.Token other) n m f g = absurd (no-token bytes other f.0 f.1 g.1)
fault-one bytes (xml.Nesting at) (xml.Nesting other) n m f g = ap (λ (k : ℕ). xml.Nesting k) (nesting-one bytes f.0 g.0 at other (file-tokens-one bytes f.0 g.0 f.1 g.1) f.2 g.2)
fault-one bytes (xml.Nesting at) (xml.TooDeep other) n m f g = absurd (nested-not bytes f.0 g.0 at (file-tokens-one bytes f.0 g.0 f.1 g.1) f.2 g.2)
fault-one bytes (xml.TooDeep at) xml.NoMemory n m f g = absurd (m refl)
fault-one bytes (xml.TooDeep at) (xml.NotUtf8 other) n m f g = absurd (g.0 f.1.text)
fault-one bytes (xml.TooDeep at) (xml.Token other) n m f g = absurd (no-token bytes other f.0 f.1 g.1)
fault-one bytes (xml.TooDeep at) (xml.Nesting other) n m f g = absurd (nested-not bytes g.0 f.0 other (file-tokens-one bytes g.0 f.0 g.1 f.1) g.2 f.2)
fault-one bytes (xml.TooDeep at) (xml.TooDeep other) n m f g = ap (λ (k : ℕ). xml.TooDeep k) (refused-one below_limit f.0 g.0 at other (file-tokens-one bytes f.0 g.0 f.1 g.1) f.3 g.3)
