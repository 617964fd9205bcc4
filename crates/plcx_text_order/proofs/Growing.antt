-- What is prepared stays where more is prepared.
use Rattle.std.proofs.Common.{◌≡◌, ◌≢◌, ℕ, zero, suc, ◌+◌, ◌-◌, ◌<◌, ◌≤◌, ◌⊎◌, inl, inr, List, [], ◌∷◌, ◌++◌, length, length-append, map, set, Some, refl, sym, ap, ◌∙◌, subst, arith, take, drop}
use Rattle.std.specs.Prelude.{slice_get, slice_range}
use Rattle.plcx_types.specs.Lists.{Each}
use Rattle.plcx_meaning.specs.Tree.{Expression, Argument, Statement, Assign, Call, If, While, Case, Statements, no_statement, statement, Arms, no_arm, arm}
use Rattle.plcx_meaning.specs.Execute.{Formal, Takes, Binds, NoFormal}
use Rattle.plcx_meaning.proofs.Lists.{each_append}
use Rattle.plcx_numbered.specs.Right.{HasAt}
use Rattle.plcx_text_numbered.specs.Prepared.{Numbering}
use Rattle.plcx_text_numbered.specs.Statements.{formal_of}
use Rattle.plcx_text_pieces.specs.Called.{Numbers}
use Rattle.plcx_text_pieces.specs.Pieces.{Part, Piece, Start, joined, after, one_line, boxed, value_piece, assign_piece, taken_piece, all_taken_piece, call_piece, statement_piece, statements_piece, arms_piece}
use Rattle.plcx_text_pieces.specs.Laws.{StandsIn}

-- ---- lists with more behind them

pub get_front : {A : Type 0} (xs ys : List A) (i : ℕ) → i < length xs → slice_get (xs ++ ys) i ≡ slice_get xs i
get_front [] ys i low = absurd (omega arith)
get_front (x ∷ xs) ys zero low = refl
get_front (x ∷ xs) ys (suc i) low = get_front xs ys i (omega arith)

pub get_behind : {A : Type 0} (xs ys : List A) (i : ℕ) → slice_get (xs ++ ys) (length xs + i) ≡ slice_get ys i
get_behind [] ys i = ap (slice_get ys) (let z : 0 + i ≡ i = omega arith in z)
get_behind (x ∷ xs) ys i = ap (slice_get (x ∷ (xs ++ ys))) (let z : suc (length xs) + i ≡ suc (length xs + i) = omega arith in z) ∙ get_behind xs ys i

-- a part at a place, without the place behind it
at_from : {A : Type 0} (whole : List A) (i : ℕ) (part : List A) → HasAt whole i part → take (length part) (drop i whole) ≡ part
at_from whole i part h = ap (λ n. take n (drop i whole)) (let e : length part ≡ i + length part - i = omega arith in e) ∙ h

at_to : {A : Type 0} (whole : List A) (i : ℕ) (part : List A) → take (length part) (drop i whole) ≡ part → HasAt whole i part
at_to whole i part h = ap (λ n. take n (drop i whole)) (let e : i + length part - i ≡ length part = omega arith in e) ∙ h

take_more : {A : Type 0} (n : ℕ) (xs ys : List A) → length (take n xs) ≡ n → take n (xs ++ ys) ≡ take n xs
take_more zero xs ys h = refl
take_more (suc n) [] ys h = absurd (omega arith)
take_more (suc n) (x ∷ xs) ys h = ap (λ l. x ∷ l) (take_more n xs ys (omega arith))

drop_more : {A : Type 0} (n : ℕ) (xs ys : List A) → n ≤ length xs → drop n (xs ++ ys) ≡ drop n xs ++ ys
drop_more zero xs ys low = refl
drop_more (suc n) [] ys low = absurd (omega arith)
drop_more (suc n) (x ∷ xs) ys low = drop_more n xs ys (omega arith)

pub stands_more : {A : Type 0} (whole more : List A) (i : ℕ) (part : List A) → StandsIn whole i part → StandsIn (whole ++ more) i part
stands_more whole more i part s =
    let begins = s.begins in
    let long = length-append whole more in
    let old = at_from whole i part s.has in
    record {
      begins = omega arith;
      has = at_to (whole ++ more) i part
          (ap (take (length part)) (drop_more i whole more begins) ∙ take_more (length part) (drop i whole) more (ap length old) ∙ old);
    }

take_all : {A : Type 0} (xs : List A) → take (length xs) xs ≡ xs
take_all [] = refl
take_all (x ∷ xs) = ap (λ l. x ∷ l) (take_all xs)

drop_all : {A : Type 0} (xs ys : List A) → drop (length xs) (xs ++ ys) ≡ ys
drop_all [] ys = refl
drop_all (x ∷ xs) ys = drop_all xs ys

pub stands_last : {A : Type 0} (whole part : List A) → StandsIn (whole ++ part) (length whole) part
stands_last whole part =
    let long = length-append whole part in
    record { begins = omega arith; has = at_to (whole ++ part) (length whole) part (ap (take (length part)) (drop_all whole part) ∙ take_all part) }

-- ---- entries

pub set_same : {A : Type 0} (xs : List A) (i : ℕ) (x : A) → i < length xs → slice_get (set xs i x) i ≡ Some x
set_same [] i x low = absurd (omega arith)
set_same (y ∷ ys) zero x low = refl
set_same (y ∷ ys) (suc i) x low = set_same ys i x (omega arith)

pub set_other : {A : Type 0} (xs : List A) (i j : ℕ) (x : A) → (j ≡ i → ⊥) → slice_get (set xs i x) j ≡ slice_get xs j
set_other [] i j x other = refl
set_other (y ∷ ys) zero zero x other = absurd (other refl)
set_other (y ∷ ys) zero (suc j) x other = refl
set_other (y ∷ ys) (suc i) zero x other = refl
set_other (y ∷ ys) (suc i) (suc j) x other = set_other ys i j x (λ e. other (ap suc e))

-- ---- the sections of a piece are parts of its POU

module _ (n : Numbers) where
  abbrev Own : Piece → Type 0
  Own p = Each (λ (x : Part). x.0 ≡ n.pou) p.sections

  own_joined : (p q : Piece) → Own p → Own q → Own (joined p q)
  own_joined p q a b = each_append _ p.sections q.sections a b

  own_boxed : (p : Piece) → Own p → Own (boxed n.pou p)
  own_boxed p a = each_append _ p.sections ((n.pou, p.lines) ∷ []) a (refl, tt)

  taken_own : (s : Start) (f : Formal) (a : Argument) → Own (taken_piece n.names s f a)
  taken_own s (Takes t) a = tt
  taken_own s (Binds t) a = tt
  taken_own s NoFormal a = tt

  all_own : (s : Start) (i : List ℕ) (args : List Argument) → Own (all_taken_piece n.names s i args)
  all_own s i [] = tt
  all_own s i (a ∷ rest) =
      let p = taken_piece n.names s (formal_of n.names i a) a in
      own_joined p (all_taken_piece n.names (after s p) i rest) (taken_own s (formal_of n.names i a) a) (all_own (after s p) i rest)

  mutual
    statement_own : (x : Statement) (s : Start) → Own (statement_piece n x s)
    statement_own (Assign x e) s = tt
    statement_own (Call i args) s = each_append _ (all_taken_piece n.names s i args).sections [] (all_own s i args) tt
    statement_own (If e ss) s =
        let inner = statements_piece n ss (after s (value_piece n.names s e)) in
        each_append _ (boxed n.pou inner).sections [] (own_boxed inner (statements_own ss (after s (value_piece n.names s e)))) tt
    statement_own (While e ss) s =
        let test = value_piece n.names s e in
        let behind = after s (boxed n.pou test) in
        let inner = statements_piece n ss behind in
        (refl, each_append _ (boxed n.pou inner).sections [] (own_boxed inner (statements_own ss behind)) tt)
    statement_own (Case e arms) s =
        let behind = after s (value_piece n.names s e) in
        each_append _ (arms_piece n arms behind).sections [] (arms_own arms behind) tt

    pub statements_own : (ss : Statements) (s : Start) → Own (statements_piece n ss s)
    statements_own no_statement s = tt
    statements_own (statement x xs) s = let p = statement_piece n x s in own_joined p (statements_piece n xs (after s p)) (statement_own x s) (statements_own xs (after s p))

    arms_own : (arms : Arms) (s : Start) → Own (arms_piece n arms s)
    arms_own no_arm s = tt
    arms_own (arm label xs rest) s =
        let inner = statements_piece n xs s in
        let p = boxed n.pou inner in
        own_joined p (arms_piece n rest (after s p)) (own_boxed inner (statements_own xs s)) (arms_own rest (after s p))

  pub body_own : (ss : Statements) (s : Start) → Own (boxed n.pou (statements_piece n ss s))
  body_own ss s = own_boxed (statements_piece n ss s) (statements_own ss s)
