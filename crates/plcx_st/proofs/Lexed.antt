-- The printed text is made of the tokens that were printed.
use Rattle.std.proofs.Common.{◌≡◌, ◌||◌, ◌+◌, ◌<◌, ℕ, zero, suc, Bool, true, false, inl, inr, ◌⊎◌, List, [], ◌∷◌, ◌++◌, length, drop, refl, ap, sym, subst, ◌∙◌, arith, length-append, Some, None, map, append_assoc}
use Rattle.std.specs.Prelude.{codes, if◌then◌else◌, replicate}
use Rattle.std.specs.List.{flat_map}
use Rattle.std.specs.Str.{bytes_eq}
use Rattle.std.proofs.lemmas.Bool.{cases_Bool}
use Rattle.std.proofs.Math.Seq.{take-append_seam, drop-append_seam}
use Rattle.plcx_lex.specs.declared.token.TokenKind.{TokenKind}
use Rattle.plcx_lex.specs.declared.token.TokenKind.TheVariants as kind
use Rattle.plcx_lex.specs.Token.{Token}
use Rattle.plcx_lex.specs.Lexis.{IsToken, Piece, Covers, total, tokens_from, is_blank}
use Rattle.plcx_st.specs.Print.{Shape, shape, sign, name, gap, text_behind, joined, is_joined, is_among, is_name, are_digits, none_behind, none_before, Line, line_text}
use Rattle.plcx_st.proofs.Inside.{same_bytes, table_test, head, is_stop, token_some, name_bytes}
use Rattle.plcx_st.proofs.Ends.{Ends, ends_stop, ends_point, ends_open, ends_dot}

abbrev pub shape_of : Token → Shape
shape_of t = record { kind = t.kind; text = t.text }

-- the bytes are made of tokens of these shapes
pub record Lexed (bytes : List ℕ) (ss : List Shape) : Type 0 where
  pub pieces : List Piece
  pub covers : Covers bytes pieces
  pub all : total pieces ≡ length bytes
  pub shapes : (at : ℕ) → map shape_of (tokens_from at bytes pieces) ≡ ss

abbrev piece : TokenKind → List ℕ → Piece
piece k text = (Some k, length text)

pub lexed_nothing : Lexed [] []
lexed_nothing = record { pieces = []; covers = tt; all = refl; shapes = λ at. refl }

pub lexed_token : (k : TokenKind) (text rest : List ℕ) (ss : List Shape) → Ends k text rest → Lexed rest ss → Lexed (text ++ rest) (shape k text ∷ ss)
lexed_token k text rest ss ends r = record {
  pieces = piece k text ∷ r.pieces;
  covers = ((ends.token, ends.plain), subst (λ (l : List ℕ). Covers l r.pieces) (sym (drop-append_seam text rest)) r.covers);
  all = omega (arith, r.all, length-append text rest);
  shapes = λ at. ap (λ (w : List ℕ). shape k w ∷ map shape_of (tokens_from (at + length text) (drop (length text) (text ++ rest)) r.pieces)) (take-append_seam text rest)
      ∙ ap (λ (l : List ℕ). shape k text ∷ map shape_of (tokens_from (at + length text) l r.pieces)) (drop-append_seam text rest)
      ∙ ap (λ (l : List Shape). shape k text ∷ l) (r.shapes (at + length text));
}

pub lexed_blank : (b : ℕ) (rest : List ℕ) (ss : List Shape) → is_blank b ≡ true → Lexed rest ss → Lexed (b ∷ rest) ss
lexed_blank b rest ss blank r = record {
  pieces = (None, 1) ∷ r.pieces;
  covers = (inl (refl, omega arith, blank), r.covers);
  all = omega (arith, r.all);
  shapes = λ at. r.shapes (at + 1);
}

pub lexed_blanks : (n : ℕ) (rest : List ℕ) (ss : List Shape) → Lexed rest ss → Lexed (replicate n 32 ++ rest) ss
lexed_blanks zero rest ss r = r
lexed_blanks (suc n) rest ss r = lexed_blank 32 (replicate n 32 ++ rest) ss refl (lexed_blanks n rest ss r)

-- ---- lists of shapes that may stand on one line

abbrev pub NoPoint : List Shape → Type 0
NoPoint [] = Unit {0}
NoPoint (b ∷ ss) = bytes_eq b.text (codes ".") ≡ false

abbrev pub NoStar : List Shape → Type 0
NoStar [] = Unit {0}
NoStar (b ∷ ss) = head b.text ≡ 42 → ⊥

pub data Fine : List Shape → Type 0 where
  nothing : Fine []
  -- a token that is no opening bracket, and no point behind it
  plain : {a : Shape} {ss : List Shape} → IsToken a.kind a.text → (head a.text ≡ 40 → ⊥) → NoPoint ss → Fine ss → Fine (a ∷ ss)
  opens : {ss : List Shape} → NoPoint ss → NoStar ss → Fine ss → Fine (sign (codes "(") ∷ ss)
  member : {i o : List ℕ} {ss : List Shape} → IsToken kind.Name i → Fine (name o ∷ ss) → Fine (name i ∷ sign (codes ".") ∷ name o ∷ ss)

fine_head : {a : Shape} {ss : List Shape} → Fine (a ∷ ss) → IsToken a.kind a.text
fine_head (plain is other point h) = is
fine_head (opens point star h) = refl
fine_head (member is h) = is

-- ---- the gap between two of them

or_parts : (a b : Bool) → (a || b) ≡ true → (a ≡ true) ⊎ (b ≡ true)
or_parts true b h = inl refl
or_parts false b h = inr h

by_kind : (n d : Bool) (text : List ℕ) → (if n then bytes_eq text (codes "(") else (if d then bytes_eq text (codes ":") else false)) ≡ true → is_stop (head text) ≡ true
by_kind true d text h = ap (λ (w : List ℕ). is_stop (head w)) (same_bytes text (codes "(") h)
by_kind false true text h = ap (λ (w : List ℕ). is_stop (head w)) (same_bytes text (codes ":") h)
by_kind false false text h = (let bad : false ≡ true = h in absurd cc)

abbrev stop_or_point : List ℕ → Bool
stop_or_point text = is_stop (head text) || bytes_eq text (codes ".")

before_stops : (text : List ℕ) → is_among none_before text ≡ true → bytes_eq text (codes ".") ≡ false → is_stop (head text) ≡ true
before_stops text h point = elim (or_parts (is_stop (head text)) (bytes_eq text (codes ".")) (table_test stop_or_point none_before text refl h)) [
  | inl stop ↦ stop
  | inr dot ↦ (let bad : false ≡ true = sym point ∙ dot in absurd cc)
]

ends_before : (k : TokenKind) (text next rest : List ℕ) → IsToken k text → 0 < length next → is_stop (head next) ≡ true → Ends k text (next ++ rest)
ends_before k text [] rest is some stop = absurd (omega arith)
ends_before k text (b ∷ next) rest is some stop = ends_stop k text b (next ++ rest) is stop

or_none : (b : Bool) → (b || false) ≡ true → b ≡ true
or_none true h = refl
or_none false h = h

behind_dot : (text : List ℕ) → is_among none_behind text ≡ true → (head text ≡ 40 → ⊥) → text ≡ codes "."
behind_dot text h other = elim (or_parts (bytes_eq text (codes "(")) (bytes_eq text (codes ".") || false) h) [
  | inl open' ↦ absurd (other (ap head (same_bytes text (codes "(") open')))
  | inr dot ↦ same_bytes text (codes ".") (or_none (bytes_eq text (codes ".")) dot)
]

ends_joined : (a b : Shape) (rest : List ℕ) → IsToken a.kind a.text → IsToken b.kind b.text → (head a.text ≡ 40 → ⊥) → bytes_eq b.text (codes ".") ≡ false → is_joined a b ≡ true → Ends a.kind a.text (b.text ++ rest)
unfolding is_joined
ends_joined a b rest is next other point h =
    let behind' : Bool = is_among none_behind a.text in
    let before : Bool = is_among none_before b.text in
    let special : Bool = if is_name a.kind then bytes_eq b.text (codes "(") else (if are_digits a.kind then bytes_eq b.text (codes ":") else false) in
    let stop : is_stop (head b.text) ≡ true → Ends a.kind a.text (b.text ++ rest) = λ s. ends_before a.kind a.text b.text rest is (token_some b.kind b.text next) s in
    elim (or_parts (behind' || before) special h) [
      | inl early ↦ elim (or_parts behind' before early) [
        | inl dot ↦ let same = behind_dot a.text dot other in
            subst (λ (w : List ℕ). Ends a.kind w (b.text ++ rest)) (sym same) (ends_dot a.kind (b.text ++ rest) (subst (IsToken a.kind) same is))
        | inr sign' ↦ stop (before_stops b.text sign' point)
      ]
      | inr late ↦ stop (by_kind (is_name a.kind) (are_digits a.kind) b.text late)
    ]

-- ---- a line

gap_text : (g t x y : List ℕ) → (g ++ (t ++ x)) ++ y ≡ g ++ (t ++ (x ++ y))
gap_text g t x y = append_assoc g (t ++ x) y ∙ ap (λ (z : List ℕ). g ++ z) (append_assoc t x y)

gap_joined : (a b : Shape) → is_joined a b ≡ true → gap a b ≡ []
gap_joined a b h = rw h

gap_apart : (a b : Shape) → is_joined a b ≡ false → gap a b ≡ 32 ∷ []
gap_apart a b h = rw h

step : (a b : Shape) (beh tail : List ℕ) (more : List Shape) → IsToken a.kind a.text → (is_joined a b ≡ true → Ends a.kind a.text (b.text ++ (beh ++ tail))) → Lexed (b.text ++ (beh ++ tail)) (b ∷ more)
    → Lexed (a.text ++ ((gap a b ++ (b.text ++ beh)) ++ tail)) (a ∷ b ∷ more)
step a b beh tail more is ends r =
    let next : List ℕ = b.text ++ (beh ++ tail) in
    elim (cases_Bool (is_joined a b)) [
      | inl h ↦ subst (λ (l : List ℕ). Lexed (a.text ++ l) (a ∷ b ∷ more)) (sym (gap_text (gap a b) b.text beh tail ∙ ap (λ (g : List ℕ). g ++ next) (gap_joined a b h)))
          (lexed_token a.kind a.text next (b ∷ more) (ends h) r)
      | inr h ↦ subst (λ (l : List ℕ). Lexed (a.text ++ l) (a ∷ b ∷ more)) (sym (gap_text (gap a b) b.text beh tail ∙ ap (λ (g : List ℕ). g ++ next) (gap_apart a b h)))
          (lexed_token a.kind a.text (32 ∷ next) (b ∷ more) (ends_stop a.kind a.text 32 next is refl) (lexed_blank 32 next (b ∷ more) refl r))
    ]

ended_line : (k : TokenKind) (text bytes : List ℕ) (more : List Shape) → Ends k text (10 ∷ bytes) → Lexed bytes more → Lexed (text ++ 10 ∷ bytes) (shape k text ∷ more)
ended_line k text bytes more ends r = lexed_token k text (10 ∷ bytes) more ends (lexed_blank 10 bytes more refl r)

head_append : (w rest : List ℕ) → 0 < length w → head (w ++ rest) ≡ head w
head_append [] rest some = absurd (omega arith)
head_append (b ∷ w) rest some = refl

line_behind : {a : Shape} {ss : List Shape} → Fine (a ∷ ss) → (bytes : List ℕ) (more : List Shape) → Lexed bytes more → Lexed (a.text ++ (text_behind a ss ++ 10 ∷ bytes)) (a ∷ (ss ++ more))
unfolding text_behind
line_behind (plain {a = a} {ss = []} is other point h) bytes more r = ended_line a.kind a.text bytes more (ends_stop a.kind a.text 10 bytes is refl) r
line_behind (plain {a = a} {ss = b ∷ ss} is other point h) bytes more r =
    step a b (text_behind b ss) (10 ∷ bytes) (ss ++ more) is (ends_joined a b (text_behind b ss ++ 10 ∷ bytes) is (fine_head h) other point) (line_behind h bytes more r)
line_behind (opens {ss = []} point star h) bytes more r = ended_line kind.Sign (codes "(") bytes more (ends_open (10 ∷ bytes) (λ e. omega (arith, e))) r
line_behind (opens {ss = b ∷ ss} point star h) bytes more r =
    let rest : List ℕ = text_behind b ss ++ 10 ∷ bytes in
    step (sign (codes "(")) b (text_behind b ss) (10 ∷ bytes) (ss ++ more) refl (λ j. ends_open (b.text ++ rest) (λ e. star (sym (head_append b.text rest (token_some b.kind b.text (fine_head h))) ∙ e))) (line_behind h bytes more r)
line_behind (member {i = i} {o = o} {ss = ss} is h) bytes more r =
    let dot : Shape = sign (codes ".") in
    step (name i) dot (text_behind dot (name o ∷ ss)) (10 ∷ bytes) (name o ∷ (ss ++ more)) is (λ j. ends_point kind.Name i (text_behind dot (name o ∷ ss) ++ 10 ∷ bytes) is (name_bytes i is.0))
    (step dot (name o) (text_behind (name o) ss) (10 ∷ bytes) (ss ++ more) refl (λ j. ends_dot kind.Sign (o ++ (text_behind (name o) ss ++ 10 ∷ bytes)) refl) (line_behind h bytes more r))

joined_line : (ss : List Shape) → Fine ss → (bytes : List ℕ) (more : List Shape) → Lexed bytes more → Lexed (joined ss ++ 10 ∷ bytes) (ss ++ more)
unfolding joined
joined_line [] h bytes more r = lexed_blank 10 bytes more refl r
joined_line (a ∷ ss) h bytes more r = subst (λ (l : List ℕ). Lexed l (a ∷ (ss ++ more))) (sym (append_assoc a.text (text_behind a ss) (10 ∷ bytes))) (line_behind h bytes more r)

-- ---- lines

abbrev pub FineLines : List Line → Type 0
FineLines [] = Unit {0}
FineLines (l ∷ ls) = Fine l.shapes × FineLines ls

abbrev pub shapes_of : List Line → List Shape
shapes_of ls = flat_map (λ l. l.shapes) ls

line_bytes : (l : Line) (bytes : List ℕ) → line_text l ++ bytes ≡ replicate l.indent 32 ++ (joined l.shapes ++ 10 ∷ bytes)
line_bytes l bytes = append_assoc (replicate l.indent 32) (joined l.shapes ++ 10 ∷ []) bytes ∙ ap (λ (z : List ℕ). replicate l.indent 32 ++ z) (append_assoc (joined l.shapes) (10 ∷ []) bytes)

pub lexed_lines : (ls : List Line) → FineLines ls → Lexed (flat_map line_text ls) (shapes_of ls)
lexed_lines [] fine = lexed_nothing
lexed_lines (l ∷ ls) fine =
    subst (λ (z : List ℕ). Lexed z (shapes_of (l ∷ ls))) (sym (line_bytes l (flat_map line_text ls)))
    (lexed_blanks l.indent (joined l.shapes ++ 10 ∷ flat_map line_text ls) (shapes_of (l ∷ ls)) (joined_line l.shapes fine.0 (flat_map line_text ls) (shapes_of ls) (lexed_lines ls fine.1)))
