-- Tokens of shapes that are put together are tokens put together.
use Rattle.std.proofs.Common.{◌≡◌, List, [], ◌∷◌, ◌++◌, map, drop, refl, ap, ◌∙◌}
use Rattle.plcx_lex.specs.Token.{Token}
use Rattle.plcx_lex.specs.Terminal.{terminal, terminal_of}
use Rattle.plcx_st.specs.Print.{Shape}
use Rattle.plcx_st.proofs.Lexed.{shape_of}

-- tokens of these shapes
abbrev pub Shaped : List Token → List Shape → Type 0
Shaped ts ss = map shape_of ts ≡ ss

pub record Split (ts : List Token) (a b : List Shape) : Type 0 where
  pub front : List Token
  pub back : List Token
  pub parts : ts ≡ front ++ back
  pub first : Shaped front a
  pub second : Shaped back b

pub split : (ts : List Token) (a b : List Shape) → Shaped ts (a ++ b) → Split ts a b
split ts [] b h = record { front = []; back = ts; parts = refl; first = refl; second = h }
split [] (s ∷ a) b h = absurd (let no : [] ≡ s ∷ (a ++ b) = h in cc)
split (t ∷ ts) (s ∷ a) b h =
    let r = split ts a b (ap (λ (z : List Shape). drop 1 z) h) in
    let head : shape_of t ≡ s = cc in
    record { front = t ∷ r.front; back = r.back; parts = ap (λ (z : List Token). t ∷ z) r.parts; first = (let f = r.first in cc); second = r.second }

pub record Headed (ts : List Token) (s : Shape) (b : List Shape) : Type 0 where
  pub token : Token
  pub back : List Token
  pub parts : ts ≡ token ∷ back
  pub is : shape_of token ≡ s
  pub second : Shaped back b

pub headed : (ts : List Token) (s : Shape) (b : List Shape) → Shaped ts (s ∷ b) → Headed ts s b
headed [] s b h = absurd (let no : [] ≡ s ∷ b = h in cc)
headed (t ∷ ts) s b h =
    let head : shape_of t ≡ s = cc in
    record { token = t; back = ts; parts = refl; is = head; second = ap (λ (z : List Shape). drop 1 z) h }

pub empty : (ts : List Token) → Shaped ts [] → ts ≡ []
empty [] h = refl
empty (t ∷ ts) h = absurd (let no : map shape_of (t ∷ ts) ≡ [] = h in cc)

pub last_one : (ts : List Token) (s : Shape) (h : Headed ts s []) → ts ≡ h.token ∷ []
last_one ts s h = h.parts ∙ ap (λ (z : List Token). h.token ∷ z) (empty h.back h.second)

-- what a token of a shape is in the grammar, and how it is spelt
pub terminal_is : (t : Token) (s : Shape) → shape_of t ≡ s → terminal t ≡ terminal_of s.kind s.text
unfolding terminal
terminal_is t s h = ap (λ (z : Shape). terminal_of z.kind z.text) h

pub text_is : (t : Token) (s : Shape) → shape_of t ≡ s → t.text ≡ s.text
text_is t s h = ap (λ (z : Shape). z.text) h
