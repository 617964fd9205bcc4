-- Printing one token after the other, and one line after the other.
use Rattle.std.proofs.Common.{◌≡◌, ℕ, ◌+◌, Bool, true, false, eqb, List, [], ◌∷◌, ◌++◌, Result, Ok, Err, refl, sym, ap, subst, ◌∙◌, append_assoc, arith}
use Rattle.std.proofs.lemmas.List.{append-nil}
use Rattle.std.proofs.lemmas.Grind.{flat_map-append}
use Rattle.std.specs.Prelude.{OnOk, codes, replicate, ◌||◌, if◌then◌else◌}
use Rattle.std.specs.Str.{bytes_eq}
use Rattle.std.specs.List.{flat_map}
use Rattle.plcx_lex.specs.declared.token.TokenKind.{TokenKind}
use Rattle.plcx_lex.specs.declared.token.TokenKind.TheVariants as kind
use Rattle.plcx_st.specs.declared.printing.Last.{Last}
use Rattle.plcx_st.specs.declared.printing.Last.TheVariants as last
use Rattle.plcx_st.specs.declared.printing.Printer.{Printer}
use Rattle.plcx_meaning.specs.Tree.{Operator}
use Rattle.plcx_st.specs.Print.{Shape, sign, operator_shape, in_brackets, is_among, none_behind, none_before, is_name, are_digits, is_joined, text_behind, joined, gap, Line, line, line_text}
use Rattle.plcx_st.specs.Printer.{last_kind, last_of, joins, text_after, last_after, Puts, Writes}

-- ---- the gaps of the printer are those of the printed form

or_no : (b : Bool) → (b || false) ≡ b
or_no true = refl
or_no false = refl

joins_kind : (k : TokenKind) (text : List ℕ) → joins (last_kind k) text ≡ (is_among none_before text || (if is_name k then bytes_eq text (codes "(") else (if are_digits k then bytes_eq text (codes ":") else false)))
unfolding joins
joins_kind kind.Name text = refl
joins_kind kind.Digits text = refl
joins_kind kind.Keyword text = sym (or_no (is_among none_before text))
joins_kind kind.Number text = sym (or_no (is_among none_before text))
joins_kind kind.Address text = sym (or_no (is_among none_before text))
joins_kind kind.Sign text = sym (or_no (is_among none_before text))

joins_by : (c : Bool) (k : TokenKind) (text : List ℕ) → joins (if c then last.Opening else last_kind k) text ≡ (c || is_among none_before text || (if is_name k then bytes_eq text (codes "(") else (if are_digits k then bytes_eq text (codes ":") else false)))
unfolding joins
joins_by true k text = refl
joins_by false k text = joins_kind k text

pub joins_is : (a b : Shape) → joins (last_of a) b.text ≡ is_joined a b
unfolding last_of is_joined
joins_is a b = joins_by (is_among none_behind a.text) a.kind b.text

pub after_is : (a : Shape) (shapes : List Shape) → text_after (last_of a) shapes ≡ text_behind a shapes
unfolding text_after text_behind
after_is a [] = refl
after_is a (b ∷ shapes) = ap (λ c. (if c then [] else codes " ") ++ (b.text ++ text_after (last_of b) shapes)) (joins_is a b) ∙ ap (λ (z : List ℕ). gap a b ++ (b.text ++ z)) (after_is b shapes)

pub joined_is : (shapes : List Shape) → text_after last.Nothing shapes ≡ joined shapes
unfolding text_after joined joins
joined_is [] = refl
joined_is (a ∷ shapes) = ap (λ (z : List ℕ). a.text ++ z) (after_is a shapes)

-- ---- one token after the other

pub after_append : (l : Last) (a b : List Shape) → text_after l (a ++ b) ≡ text_after l a ++ text_after (last_after l a) b
unfolding text_after last_after
after_append l [] b = refl
after_append l (s ∷ a) b =
    let g : List ℕ = if joins l s.text then [] else codes " " in
    let x : List ℕ = text_after (last_of s) a in
    let y : List ℕ = text_after (last_after (last_of s) a) b in
    ap (λ (z : List ℕ). g ++ (s.text ++ z)) (after_append (last_of s) a b) ∙ sym (append_assoc g (s.text ++ x) y ∙ ap (λ (z : List ℕ). g ++ z) (append_assoc s.text x y))

pub last_append : (l : Last) (a b : List Shape) → last_after l (a ++ b) ≡ last_after (last_after l a) b
unfolding last_after
last_append l [] b = refl
last_append l (s ∷ a) b = last_append (last_of s) a b

pub puts_then : (p q r : Printer) (a b : List Shape) → Puts p q a → Puts q r b → Puts p r (a ++ b)
puts_then p q r a b x y = record {
  bytes = y.bytes ∙ ap (λ (z : List ℕ). z ++ text_after q.last b) x.bytes ∙ append_assoc p.bytes.items (text_after p.last a) (text_after q.last b) ∙ ap (λ (z : List ℕ). p.bytes.items ++ z) (ap (λ l. text_after p.last a ++ text_after l b) x.last ∙ sym (after_append p.last a b));
  last = y.last ∙ ap (λ l. last_after l b) x.last ∙ sym (last_append p.last a b);
}

pub puts_after : (p q r : Printer) (s : Shape) (b : List Shape) → Puts p q (s ∷ []) → Puts q r b → Puts p r (s ∷ b)
puts_after p q r s b x y = puts_then p q r (s ∷ []) b x y

pub puts_none : (p : Printer) → Puts p p []
unfolding text_after last_after
puts_none p = record { bytes = sym (append-nil p.bytes.items); last = refl }

pub puts_along : (p q : Printer) (a b : List Shape) → a ≡ b → Puts p q b → Puts p q a
puts_along p q a b e h = subst (λ (z : List Shape). Puts p q z) (sym e) h

pub on_ok : {A E P Q : Type 0} (r : Result A E) → (P → Q) → OnOk r P → OnOk r Q
on_ok (Ok x) f h = f h
on_ok (Err d) f h = tt

-- ---- lines

-- what stands between the beginning of a line and its end
pub line_done : (old begun put new : Printer) (n : ℕ) (shapes : List Shape) → begun.bytes.items ≡ old.bytes.items ++ replicate n 32 → begun.last ≡ last.Nothing → Puts begun put shapes → new.bytes.items ≡ put.bytes.items ++ 10 ∷ []
    → Writes old new (line n shapes ∷ [])
line_done old begun put new n shapes b l p e =
    let o = old.bytes.items in
    let r : List ℕ = replicate n 32 in
    let j : List ℕ = joined shapes in
    let end : List ℕ = 10 ∷ [] in
    let whole : put.bytes.items ≡ (o ++ r) ++ j = p.bytes ∙ ap (λ (z : List ℕ). z ++ text_after begun.last shapes) b ∙ ap (λ (z : List ℕ). (o ++ r) ++ z) (ap (λ q. text_after q shapes) l ∙ joined_is shapes) in
    e ∙ ap (λ (z : List ℕ). z ++ end) whole ∙ ap (λ (z : List ℕ). z ++ end) (append_assoc o r j) ∙ append_assoc o (r ++ j) end ∙ ap (λ (z : List ℕ). o ++ z) (append_assoc r j end ∙ sym (append-nil (r ++ (j ++ end))))

pub writes_then : (p q r : Printer) (a b : List Line) → Writes p q a → Writes q r b → Writes p r (a ++ b)
writes_then p q r a b x y = y ∙ ap (λ (z : List ℕ). z ++ flat_map line_text b) x ∙ append_assoc p.bytes.items (flat_map line_text a) (flat_map line_text b) ∙ ap (λ (z : List ℕ). p.bytes.items ++ z) (sym (flat_map-append line_text a b))

pub writes_none : (p : Printer) → Writes p p []
writes_none p = sym (append-nil p.bytes.items)

pub writes_along : (p q : Printer) (a b : List Line) → a ≡ b → Writes p q b → Writes p q a
writes_along p q a b e h = subst (λ (z : List Line). Writes p q z) (sym e) h

-- ---- lists with commas

pub not_first : (i : ℕ) → false ≡ eqb (i + 1) 0
not_first i = grind arith

abbrev pub open_sign : Shape
open_sign = sign (codes "(")

abbrev pub close_sign : Shape
close_sign = sign (codes ")")

abbrev pub comma_sign : Shape
comma_sign = sign (codes ",")

-- ---- forms that the printer puts together

pub puts_brackets : (p q r s : Printer) (inner : List Shape) → Puts p q (open_sign ∷ []) → Puts q r inner → Puts r s (close_sign ∷ []) → Puts p s (in_brackets inner)
puts_brackets p q r s inner a b c = puts_after p q s open_sign (inner ++ close_sign ∷ []) a (puts_then q r s inner (close_sign ∷ []) b c)

pub puts_operator : (p q r s : Printer) (o : Operator) (x y : List Shape) → Puts p q x → Puts q r (operator_shape o ∷ []) → Puts r s y → Puts p s (x ++ operator_shape o ∷ y)
puts_operator p q r s o x y a b c = puts_then p q s x (operator_shape o ∷ y) a (puts_after q r s (operator_shape o) y b c)

pub ruleset puts_rules = (puts_then, puts_after, writes_then)

pub writes_after : (p q r : Printer) (l : Line) (b : List Line) → Writes p q (l ∷ []) → Writes q r b → Writes p r (l ∷ b)
writes_after p q r l b x y = writes_then p q r (l ∷ []) b x y

-- a line, lines, and a line
pub writes_around : (p q r s : Printer) (first last' : Line) (lines : List Line) → Writes p q (first ∷ []) → Writes q r lines → Writes r s (last' ∷ []) → Writes p s (first ∷ (lines ++ last' ∷ []))
writes_around p q r s first last' lines a b c = writes_after p q s first (lines ++ last' ∷ []) a (writes_then q r s lines (last' ∷ []) b c)
