-- Pieces at the front of bytes, and of a front of these bytes.
use Rattle.std.proofs.Common.{◌≡◌, ◌+◌, ◌-◌, ◌<◌, ◌≤◌, ◌||◌, not, nat_eq, ℕ, zero, suc, Bool, true, false, inl, inr, List, [], ◌∷◌, length, take, get_or, Option, Some, None, refl, ap, arith, sym, ◌∙◌, subst}
use Rattle.std.specs.Prelude.{codes}
use Rattle.std.proofs.lemmas.Bool.{cases_Bool, cases_lt, eqb-true, eqb-false}
use Rattle.std.proofs.lemmas.List.{get_or-take, length-take, take-take}
use Rattle.plcx_types.specs.Name.{is_first_byte}
use Rattle.plcx_types.specs.Address.{is_one_of}
use Rattle.plcx_lex.specs.Lexis.{is_blank, is_decimal, IsToken, ClosesAt, IsBracketed, IsLine, IsComment, IsBlank, Longest, NoComment, IsPiece}
use Rattle.plcx_lex.specs.declared.token.TokenKind.{TokenKind}
use Rattle.plcx_lex.specs.declared.token.TokenKind.TheVariants as kind
use Rattle.plcx_lex.specs.Scan.{AnyToken, NoPiece}
use Rattle.plcx_lex.proofs.TokenForms.{First, token_starts, one_of}
use Rattle.plcx_lex.proofs.OneKind.{one_kind}

-- ---- what is at the front is longer than nothing

-- no token begins with these bytes
abbrev pub begins_none : ℕ → Bool
begins_none b = not (is_first_byte b || is_decimal b || nat_eq b 37 || is_one_of (codes ":;,.()+-*/=<>") b)

all_false : (w x y z : Bool) → not (w || x || y || z) ≡ true → (w ≡ false) × (x ≡ false) × (y ≡ false) × (z ≡ false)
all_false true x y z h = absurd (cc)
all_false false true y z h = absurd (cc)
all_false false false true z h = absurd (cc)
all_false false false false true h = absurd (cc)
all_false false false false false h = (refl, refl, refl, refl)

none_first : (k : TokenKind) (b : ℕ) → begins_none b ≡ true → First k b → ⊥
none_first k b none first = go k first (all_false (is_first_byte b) (is_decimal b) (nat_eq b 37) (is_one_of (codes ":;,.()+-*/=<>") b) none)
  where
    go : (k : TokenKind) → First k b → (is_first_byte b ≡ false) × (is_decimal b ≡ false) × (nat_eq b 37 ≡ false) × (is_one_of (codes ":;,.()+-*/=<>") b ≡ false) → ⊥
    go kind.Keyword is h = let bad = sym h.0 ∙ is in cc
    go kind.Name is h = let bad = sym h.0 ∙ is in cc
    go kind.Number is h = let bad = sym h.0 ∙ is in cc
    go kind.Digits is h = let bad = sym h.1 ∙ is in cc
    go kind.Address is h = eqb-false b 37 h.2 is
    go kind.Sign is h = let bad = sym h.3 ∙ is in cc

pub blank_no_token : (bytes : List ℕ) (n m : ℕ) → IsBlank bytes n → AnyToken (take m bytes) → ⊥
blank_no_token bytes n m blank h =
    let starts = token_starts h.0 (take m bytes) h.1 in
    let pos : 0 < m = omega (arith, starts.some, length-take m bytes) in
    let none : begins_none (get_or bytes 0 0) ≡ true = one_of begins_none (32 ∷ 9 ∷ 13 ∷ 10 ∷ []) (get_or bytes 0 0) refl blank.2 in
    none_first h.0 (get_or (take m bytes) 0 0) (ap begins_none (get_or-take m bytes 0 0 pos) ∙ none) starts.first

pub comment_positive : (bytes : List ℕ) (n : ℕ) → IsComment bytes n → (0 < n) × (n ≤ length bytes)
comment_positive bytes n (inl b) = (omega (arith, b.long), b.within)
comment_positive bytes n (inr l) = (omega (arith, l.room), l.within)

pub piece_positive : (bytes : List ℕ) (k : Option TokenKind) (n : ℕ) → IsPiece bytes k n → (0 < n) × (n ≤ length bytes)
piece_positive bytes None n (inl blank) = (omega (arith, blank.0), omega (arith, blank.0, blank.1))
piece_positive bytes None n (inr comment) = comment_positive bytes n comment
piece_positive bytes (Some k) n p = (let starts = token_starts k (take n bytes) p.0.formed in omega (arith, starts.some, length-take n bytes), p.0.within)

-- ---- comments

kept : (bytes : List ℕ) (m i : ℕ) → i < m → get_or (take m bytes) i 0 ≡ get_or bytes i 0
kept bytes m i lt = get_or-take m bytes i 0 lt

cut_closes : (bytes : List ℕ) (m i : ℕ) → i + 1 < m → ClosesAt bytes i → ClosesAt (take m bytes) i
cut_closes bytes m i lt h = let less : i < m = omega arith in (kept bytes m i less ∙ h.0, kept bytes m (i + 1) lt ∙ h.1)

grown_closes : (bytes : List ℕ) (m i : ℕ) → i + 1 < m → ClosesAt (take m bytes) i → ClosesAt bytes i
grown_closes bytes m i lt h = let less : i < m = omega arith in (sym (kept bytes m i less) ∙ h.0, sym (kept bytes m (i + 1) lt) ∙ h.1)

cut_bracketed : (bytes : List ℕ) (n m : ℕ) → n ≤ m → m ≤ length bytes → IsBracketed bytes n → IsBracketed (take m bytes) n
cut_bracketed bytes n m le within b =
    let zero_lt : 0 < m = omega (arith, b.long) in
    let one_lt : 1 < m = omega (arith, b.long) in
    record {
      close = b.close;
      long = b.long;
      room = b.room;
      within = omega (arith, length-take m bytes);
      opens = (kept bytes m 0 zero_lt ∙ b.opens.0, kept bytes m 1 one_lt ∙ b.opens.1);
      closes = cut_closes bytes m b.close (omega (arith, b.long)) b.closes;
      first = λ j ge lt h. b.first j ge lt (grown_closes bytes m j (omega (arith, b.long)) h);
    }

grown_bracketed : (bytes : List ℕ) (n m : ℕ) → m ≤ length bytes → IsBracketed (take m bytes) n → IsBracketed bytes n
grown_bracketed bytes n m within b =
    let le : n ≤ m = omega (arith, b.within, length-take m bytes) in
    let zero_lt : 0 < m = omega (arith, b.long) in
    let one_lt : 1 < m = omega (arith, b.long) in
    record {
      close = b.close;
      long = b.long;
      room = b.room;
      within = omega arith;
      opens = (sym (kept bytes m 0 zero_lt) ∙ b.opens.0, sym (kept bytes m 1 one_lt) ∙ b.opens.1);
      closes = grown_closes bytes m b.close (omega (arith, b.long)) b.closes;
      first = λ j ge lt h. b.first j ge lt (cut_closes bytes m j (omega (arith, b.long)) h);
    }

cut_line : (bytes : List ℕ) (n m : ℕ) → n ≤ m → m ≤ length bytes → IsLine bytes n → IsLine (take m bytes) n
cut_line bytes n m le within l =
    let zero_lt : 0 < m = omega (arith, l.room) in
    let one_lt : 1 < m = omega (arith, l.room) in
    record {
      room = l.room;
      within = omega (arith, length-take m bytes);
      opens = (kept bytes m 0 zero_lt ∙ l.opens.0, kept bytes m 1 one_lt ∙ l.opens.1);
      ends = λ lt. (let near : n < m = omega (arith, length-take m bytes) in kept bytes m n near ∙ l.ends (omega arith));
      first = λ j ge lt h. (let near : j < m = omega arith in l.first j ge lt (sym (kept bytes m j near) ∙ h));
    }

-- a line that begins ends somewhere
line_from : (bytes : List ℕ) (k i : ℕ) → i + k ≡ length bytes → 2 ≤ i → (get_or bytes 0 0 ≡ 47) × (get_or bytes 1 0 ≡ 47) → ((j : ℕ) → 2 ≤ j → j < i → get_or bytes j 0 ≡ 10 → ⊥) → (n : ℕ) × IsLine bytes n
line_from bytes zero i all room opens none = (i, record { room = room; within = omega arith; opens = opens; ends = λ lt. absurd (omega arith); first = none })
line_from bytes (suc k) i all room opens none = elim (cases_Bool (nat_eq (get_or bytes i 0) 10)) [
  | inl feed ↦ (i, record { room = room; within = omega arith; opens = opens; ends = λ lt. eqb-true (get_or bytes i 0) 10 feed; first = none })
  | inr other ↦
      line_from bytes k (i + 1) (omega arith) (omega arith) opens (λ j ge lt h. elim (cases_lt j i) [
        | inl less ↦ none j ge less h
        | inr same ↦ (let is : j ≡ i = omega arith in eqb-false (get_or bytes i 0) 10 other (ap (λ p. get_or bytes p 0) (sym is) ∙ h))
      ])
]

grown_line : (bytes : List ℕ) (n m : ℕ) → m ≤ length bytes → IsLine (take m bytes) n → (p : ℕ) × IsLine bytes p
grown_line bytes n m within l =
    let long : 2 ≤ m = omega (arith, l.room, l.within, length-take m bytes) in
    let zero_lt : 0 < m = omega arith in
    let one_lt : 1 < m = omega arith in
    line_from bytes (length bytes - 2) 2 (omega arith) (omega arith) (sym (kept bytes m 0 zero_lt) ∙ l.opens.0, sym (kept bytes m 1 one_lt) ∙ l.opens.1) (λ j ge lt h. omega arith)

pub cut_no_comment : (bytes : List ℕ) (m : ℕ) → m ≤ length bytes → NoComment bytes → NoComment (take m bytes)
cut_no_comment bytes m within none n (inl b) = none n (inl (grown_bracketed bytes n m within b))
cut_no_comment bytes m within none n (inr l) = let line = grown_line bytes n m within l in none line.0 (inr line.1)

one_bracketed : (bytes : List ℕ) (n m : ℕ) → IsBracketed bytes n → IsBracketed bytes m → n ≡ m
one_bracketed bytes n m p q = elim (cases_lt p.close q.close) [
  | inl lt ↦ absurd (q.first p.close p.room lt p.closes)
  | inr ge ↦ elim (cases_lt q.close p.close) [ inl lt ↦ absurd (p.first q.close q.room lt q.closes) | inr le ↦ omega (arith, p.long, q.long) ]
]

one_line : (bytes : List ℕ) (n m : ℕ) → IsLine bytes n → IsLine bytes m → n ≡ m
one_line bytes n m p q = elim (cases_lt n m) [
  | inl lt ↦ absurd (q.first n p.room lt (p.ends (omega (arith, q.within))))
  | inr ge ↦ elim (cases_lt m n) [ inl lt ↦ absurd (p.first m q.room lt (q.ends (omega (arith, p.within)))) | inr le ↦ omega arith ]
]

one_comment : (bytes : List ℕ) (n m : ℕ) → IsComment bytes n → IsComment bytes m → n ≡ m
one_comment bytes n m (inl p) (inl q) = one_bracketed bytes n m p q
one_comment bytes n m (inl p) (inr q) = absurd (let bad : 40 ≡ 47 = sym p.opens.0 ∙ q.opens.0 in omega arith)
one_comment bytes n m (inr p) (inl q) = absurd (let bad : 47 ≡ 40 = sym p.opens.0 ∙ q.opens.0 in omega arith)
one_comment bytes n m (inr p) (inr q) = one_line bytes n m p q

blank_comment : (bytes : List ℕ) (n m : ℕ) → IsBlank bytes n → IsComment bytes m → ⊥
blank_comment bytes n m blank (inl b) = let bad : is_blank 40 ≡ true = sym (ap is_blank b.opens.0) ∙ blank.2 in cc
blank_comment bytes n m blank (inr l) = let bad : is_blank 47 ≡ true = sym (ap is_blank l.opens.0) ∙ blank.2 in cc

-- ---- pieces of a front

cut_blank : (bytes : List ℕ) (n m : ℕ) → n ≤ m → m ≤ length bytes → IsBlank bytes n → IsBlank (take m bytes) n
cut_blank bytes n m le within h = let pos : 0 < m = omega (arith, h.0) in (h.0, omega (arith, length-take m bytes), ap is_blank (kept bytes m 0 pos) ∙ h.2)

grown_blank : (bytes : List ℕ) (n m : ℕ) → m ≤ length bytes → IsBlank (take m bytes) n → IsBlank bytes n
grown_blank bytes n m within h = let pos : 0 < m = omega (arith, h.1, length-take m bytes) in (h.0, omega arith, ap is_blank (sym (kept bytes m 0 pos)) ∙ h.2)

pub cut_piece : (bytes : List ℕ) (k : Option TokenKind) (n m : ℕ) → n ≤ m → m ≤ length bytes → IsPiece bytes k n → IsPiece (take m bytes) k n
cut_piece bytes None n m le within (inl blank) = inl (cut_blank bytes n m le within blank)
cut_piece bytes None n m le within (inr (inl b)) = inr (inl (cut_bracketed bytes n m le within b))
cut_piece bytes None n m le within (inr (inr l)) = inr (inr (cut_line bytes n m le within l))
cut_piece bytes (Some k) n m le within p = (
  record {
    within = omega (arith, length-take m bytes);
    formed = subst (IsToken k) (sym (take-take n m bytes le)) p.0.formed;
    longest = λ j other lt short is. (
        let less : j ≤ m = omega (arith, length-take m bytes) in
        p.0.longest j other lt (omega arith) (subst (IsToken other) (take-take j m bytes less) is));
  },
  cut_no_comment bytes m within p.1,
)

pub no_cut_piece : (bytes : List ℕ) (k : Option TokenKind) (n m : ℕ) → m ≤ length bytes → NoPiece bytes → IsPiece (take m bytes) k n → ⊥
no_cut_piece bytes None n m within none (inl blank) = none.no_blank n (grown_blank bytes n m within blank)
no_cut_piece bytes None n m within none (inr comment) = cut_no_comment bytes m within none.no_comment n comment
no_cut_piece bytes (Some k) n m within none p =
    let le : n ≤ m = omega (arith, p.0.within, length-take m bytes) in
    none.no_token n (omega arith) (k, subst (IsToken k) (take-take n m bytes le) p.0.formed)

-- ---- one piece at most

one_long : (bytes : List ℕ) (a b : TokenKind) (n m : ℕ) → Longest bytes a n → Longest bytes b m → n ≡ m
one_long bytes a b n m p q = elim (cases_lt n m) [
  | inl lt ↦ absurd (p.longest m b lt q.within q.formed)
  | inr ge ↦ elim (cases_lt m n) [ inl lt ↦ absurd (q.longest n a lt p.within p.formed) | inr le ↦ omega arith ]
]

pub one_piece : (bytes : List ℕ) (a b : Option TokenKind) (n m : ℕ) → IsPiece bytes a n → IsPiece bytes b m → (a ≡ b) × (n ≡ m)
one_piece bytes None None n m (inl p) (inl q) = (refl, omega (arith, p.0, q.0))
one_piece bytes None None n m (inl p) (inr q) = absurd (blank_comment bytes n m p q)
one_piece bytes None None n m (inr p) (inl q) = absurd (blank_comment bytes m n q p)
one_piece bytes None None n m (inr p) (inr q) = (refl, one_comment bytes n m p q)
one_piece bytes None (Some b) n m (inl p) q = absurd (blank_no_token bytes n m p (b, q.0.formed))
one_piece bytes None (Some b) n m (inr p) q = absurd (q.1 n p)
one_piece bytes (Some a) None n m p (inl q) = absurd (blank_no_token bytes m n q (a, p.0.formed))
one_piece bytes (Some a) None n m p (inr q) = absurd (p.1 m q)
one_piece bytes (Some a) (Some b) n m p q =
    let same = one_long bytes a b n m p.0 q.0 in
    (ap Some (one_kind a b (take n bytes) p.0.formed (subst (λ i. IsToken b (take i bytes)) (sym same) q.0.formed)), same)
