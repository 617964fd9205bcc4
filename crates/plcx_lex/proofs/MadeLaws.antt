-- Pieces one after another.
use Rattle.std.proofs.Common.{◌≡◌, ◌+◌, ◌-◌, ◌<◌, ◌≤◌, ℕ, List, [], ◌∷◌, ◌++◌, length, take, drop, map, Option, Some, None, refl, ap, arith, sym, ◌∙◌, subst}
use Rattle.std.proofs.lemmas.List.{length-take, length-drop, drop-take, drop-drop, take_all, get_or-drop, map-append}
use Rattle.std.proofs.Common.{get_or}
use Rattle.plcx_lex.specs.declared.token.TextToken.{TextToken}
use Rattle.std.proofs.lemmas.List.Elements.{All-append, All-nil, All-cons}
use Rattle.plcx_lex.specs.declared.token.TokenKind.{TokenKind}
use Rattle.plcx_lex.specs.Token.{Token}
use Rattle.plcx_lex.specs.Lexis.{Piece, IsPiece, Covers, total, token_at, tokens_from, AreTextTokens, spelt, IsLexPlace, ClosesAt}
use Rattle.plcx_lex.specs.Scan.{NoPiece, placed}
use Rattle.plcx_lex.specs.Terminal.{terminal, terminal_of, kind_of}
use Rattle.plcx_lex.specs.declared.terminal.Terminal.{Terminal}
use Rattle.std.specs.Option.{option_map}
use Rattle.std.specs.Prelude.{All, IfSome}
use Rattle.plcx_lex.proofs.PieceLaws.{piece_positive, cut_piece, no_cut_piece, one_piece}

-- ---- one piece more

pub more_covered : (bytes : List ℕ) (ps : List Piece) (p : Piece) → Covers bytes ps → IsPiece (drop (total ps) bytes) p.0 p.1 → Covers bytes (ps ++ p ∷ [])
more_covered bytes [] p covered is = (is, tt)
more_covered bytes (q ∷ qs) p covered is = (covered.0, more_covered (drop q.1 bytes) qs p covered.1 (subst (λ (rest : List ℕ). IsPiece rest p.0 p.1) (sym (drop-drop (total qs) q.1 bytes)) is))

pub more_total : (ps : List Piece) (p : Piece) → total (ps ++ p ∷ []) ≡ total ps + p.1
more_total [] p = omega arith
more_total (q ∷ qs) p = omega (arith, more_total qs p)

token_before : (at : ℕ) (bytes : List ℕ) (k : Option TokenKind) (n : ℕ) (ts us : List Token) → token_at at bytes k n (ts ++ us) ≡ token_at at bytes k n ts ++ us
token_before at bytes None n ts us = refl
token_before at bytes (Some k) n ts us = refl

pub more_tokens : (at : ℕ) (bytes : List ℕ) (ps : List Piece) (p : Piece) → tokens_from at bytes (ps ++ p ∷ []) ≡ tokens_from at bytes ps ++ token_at (at + total ps) (drop (total ps) bytes) p.0 p.1 []
more_tokens at bytes [] p = ap (λ i. token_at i bytes p.0 p.1 []) (omega arith)
more_tokens at bytes (q ∷ qs) p =
    let later = more_tokens (at + q.1) (drop q.1 bytes) qs p in
    let place : (at + q.1) + total qs ≡ at + (q.1 + total qs) = omega arith in
    let rest : token_at ((at + q.1) + total qs) (drop (total qs) (drop q.1 bytes)) p.0 p.1 [] ≡ token_at (at + (q.1 + total qs)) (drop (q.1 + total qs) bytes) p.0 p.1 [] =
    ap (λ i. token_at i (drop (total qs) (drop q.1 bytes)) p.0 p.1 []) place ∙ ap (λ r. token_at (at + (q.1 + total qs)) r p.0 p.1 []) (drop-drop (total qs) q.1 bytes) in
    ap (λ (ts : List Token). token_at at bytes q.0 q.1 ts) (later ∙ ap (λ (ts : List Token). tokens_from (at + q.1) (drop q.1 bytes) qs ++ ts) rest)
    ∙ token_before at bytes q.0 q.1 (tokens_from (at + q.1) (drop q.1 bytes) qs) (token_at (at + (q.1 + total qs)) (drop (q.1 + total qs) bytes) p.0 p.1 [])

-- a token that is kept
pub placed_spelt : (source : List ℕ) (t : Option Terminal) (start n : ℕ) → map (spelt source) (placed t start (start + n)) ≡ token_at start (drop start source) (option_map kind_of t) n []
placed_spelt source None start n = refl
placed_spelt source (Some t) start n = let long : (start + n) - start ≡ n = omega arith in rw long refl

-- ---- the place

cut_rest : (bytes : List ℕ) (n m : ℕ) → n ≤ m → drop n (take m bytes) ≡ take (m - n) (drop n bytes)
cut_rest bytes n m le = let sum : m ≡ n + (m - n) = omega arith in ap (λ i. drop n (take i bytes)) sum ∙ drop-take n (m - n) bytes

cut_covered : (bytes : List ℕ) (ps : List Piece) (m : ℕ) → Covers bytes ps → total ps ≤ m → m ≤ length bytes → Covers (take m bytes) ps
cut_covered bytes [] m covered le within = tt
cut_covered bytes (p ∷ ps) m covered le within =
    let later = cut_covered (drop p.1 bytes) ps (m - p.1) covered.1 (omega arith) (omega (arith, length-drop p.1 bytes)) in
    (cut_piece bytes p.0 p.1 m (omega arith) within covered.0, subst (λ (rest : List ℕ). Covers rest ps) (sym (cut_rest bytes p.1 m (omega arith))) later)

-- where nothing stands, no longer prefix is made of pieces
no_longer : (bytes : List ℕ) (ps qs : List Piece) (m : ℕ) → Covers bytes ps → NoPiece (drop (total ps) bytes) → total ps < m → m ≤ length bytes → Covers (take m bytes) qs → total qs ≡ m → ⊥
no_longer bytes [] [] m covered none lt within made all = omega (arith, all)
no_longer bytes [] (q ∷ qs) m covered none lt within made all = no_cut_piece bytes q.0 q.1 m within none made.0
no_longer bytes (p ∷ ps) [] m covered none lt within made all = omega (arith, all)
no_longer bytes (p ∷ ps) (q ∷ qs) m covered none lt within made all =
    let same = one_piece (take m bytes) p.0 q.0 p.1 q.1 (cut_piece bytes p.0 p.1 m (omega arith) within covered.0) made.0 in
    let rest : Covers (take (m - p.1) (drop p.1 bytes)) qs = subst (λ (r : List ℕ). Covers r qs) (ap (λ i. drop i (take m bytes)) (sym same.1) ∙ cut_rest bytes p.1 m (omega arith)) made.1 in
    no_longer (drop p.1 bytes) ps qs (m - p.1) covered.1 (subst NoPiece (sym (drop-drop (total ps) p.1 bytes)) none) (omega arith) (omega (arith, length-drop p.1 bytes)) rest (omega (arith, same.1, all))

pub lex_place : (bytes : List ℕ) (at : ℕ) (ps : List Piece) → at < length bytes → Covers bytes ps → total ps ≡ at → NoPiece (drop at bytes) → IsLexPlace bytes at
lex_place bytes at ps inside covered all none = record {
  inside = inside;
  pieces = ps;
  made = (cut_covered bytes ps at covered (omega (arith, all)) (omega arith), omega (arith, all, length-take at bytes));
  longest = λ m qs lt le made. no_longer bytes ps qs m covered (subst (λ i. NoPiece (drop i bytes)) (sym all) none) (omega (arith, all)) le made.0 (omega (arith, made.1, length-take m bytes));
}

-- ---- one list of tokens at most

one_made : (bytes : List ℕ) (ps qs : List Piece) → Covers bytes ps → Covers bytes qs → total ps ≡ total qs → ps ≡ qs
one_made bytes [] [] c d same = refl
one_made bytes [] (q ∷ qs) c d same = absurd (let pos = (piece_positive bytes q.0 q.1 d.0).0 in omega arith)
one_made bytes (p ∷ ps) [] c d same = absurd (let pos = (piece_positive bytes p.0 p.1 c.0).0 in omega arith)
one_made bytes (p ∷ ps) (q ∷ qs) c d same =
    let one = one_piece bytes p.0 q.0 p.1 q.1 c.0 d.0 in
    let head : p ≡ q = ap (λ k. (k, p.1)) one.0 ∙ ap (λ n. (q.0, n)) one.1 in
    let later = one_made (drop p.1 bytes) ps qs c.1 (subst (λ n. Covers (drop n bytes) qs) (sym one.1) d.1) (omega (arith, one.1)) in
    ap (λ x. x ∷ ps) head ∙ ap (λ xs. q ∷ xs) later

pub one_tokens : (bytes : List ℕ) (ts us : List Token) → AreTextTokens bytes ts → AreTextTokens bytes us → ts ≡ us
one_tokens bytes ts us a b = a.2 ∙ ap (tokens_from 0 bytes) (one_made bytes a.0 b.0 a.1.0 b.1.0 (a.1.1 ∙ sym b.1.1)) ∙ sym b.2

-- ---- what the loop knows

pub rest_all : (bytes : List ℕ) (at : ℕ) → take (length bytes - at) (drop at bytes) ≡ drop at bytes
rest_all bytes at = take_all _ (drop at bytes) (omega (arith, length-drop at bytes))

pub later_closes : (bytes : List ℕ) (limit at : ℕ) → ((m : ℕ) → limit ≤ m → ClosesAt bytes m → ⊥) → (m : ℕ) → limit - at ≤ m → ClosesAt (drop at bytes) m → ⊥
later_closes bytes limit at none m le h = none (at + m) (omega arith) (sym (get_or-drop at bytes m 0) ∙ h.0, ap (λ i. get_or bytes i 0) (omega arith) ∙ sym (get_or-drop at bytes (m + 1) 0) ∙ h.1)

pub kept_tokens : (bytes : List ℕ) (old new : List TextToken) (ps : List Piece) (t : Option Terminal) (at n : ℕ) → total ps ≡ at → map (spelt bytes) old ≡ tokens_from 0 bytes ps → new ≡ old ++ placed t at (at + n)
    → map (spelt bytes) new ≡ tokens_from 0 bytes (ps ++ (option_map kind_of t, n) ∷ [])
kept_tokens bytes old new ps t at n all before after =
    let k : Option TokenKind = option_map kind_of t in
    ap (map (spelt bytes)) after ∙ map-append (spelt bytes) old (placed t at (at + n)) ∙ ap (λ (ts : List Token). ts ++ map (spelt bytes) (placed t at (at + n))) before
    ∙ ap (λ (ts : List Token). tokens_from 0 bytes ps ++ ts) (placed_spelt bytes t at n ∙ ap (λ i. token_at i (drop i bytes) k n []) (sym all) ∙ ap (λ i. token_at i (drop (total ps) bytes) k n []) (omega arith))
    ∙ sym (more_tokens 0 bytes ps (k, n))

-- a kept token is what it is told as
abbrev pub IsToldIn : List ℕ → TextToken → Type 0
IsToldIn bytes t = t.terminal ≡ terminal (spelt bytes t)

pub kept_told : (bytes : List ℕ) (old new : List TextToken) (t : Option Terminal) (at n : ℕ) → All (IsToldIn bytes) old → new ≡ old ++ placed t at (at + n)
    → IfSome t (λ t. t ≡ terminal_of (kind_of t) (take n (drop at bytes))) → All (IsToldIn bytes) new
unfolding terminal
kept_told bytes old new None at n before after told = subst (All (IsToldIn bytes)) (sym after) (All-append (IsToldIn bytes) old [] before (All-nil (IsToldIn bytes)))
kept_told bytes old new (Some t) at n before after told =
    let long : (at + n) - at ≡ n = omega arith in
    let here : t ≡ terminal_of (kind_of t) (take ((at + n) - at) (drop at bytes)) = rw long told in
    subst (All (IsToldIn bytes)) (sym after) (All-append (IsToldIn bytes) old (placed (Some t) at (at + n)) before (All-cons (IsToldIn bytes) _ [] here (All-nil (IsToldIn bytes))))
