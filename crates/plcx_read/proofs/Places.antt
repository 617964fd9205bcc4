-- A fault of the reader is at its place.
use Rattle.std.proofs.Common.{◌≡◌, ℕ, suc, ◌≤◌, false, cond, eqb, max, List, [], ◌∷◌, ◌++◌, length, Result, Ok, Err, refl, sym, ap, subst, ◌∙◌, append_assoc, arith, inl, inr}
use Rattle.std.proofs.lemmas.List.{append-nil}
use Rattle.plcx_lex.specs.Token.{Token}
use Rattle.plcx_lex.specs.declared.error.TextError.{TextError}
use Rattle.plcx_lex.specs.declared.error.TextError.TheVariants as text
use Rattle.plcx_st.specs.Place.{Fault, Syntax, TooDeep, Begins, BeginsDeep, BeginsTooDeep, TellsLast, IsPlace, at_end, no_unit, told, start_of}
use Rattle.plcx_st.specs.Place as place
use Rattle.plcx_st.specs.Grammar.{ArePous}
use Rattle.plcx_st.specs.declared.tree.PouText.{PouText}
use Rattle.plcx_read.specs.Gives.{located}
use Rattle.plcx_read.specs.Reading.{Cause, syntax, too_deep, told_too_deep, Stop, Out, Read, all_of, begins_pou, pou, pous}
use Rattle.plcx_read.proofs.OnePlace.{StopsAt, two_more}
use Rattle.plcx_read.proofs.Steady.{Reader, Outcome, answered, refused, seen, Holds, Firm, done, done_is, fault_is, never_both, bind_ok, bind_err}
use Rattle.plcx_read.proofs.SteadyUnits.{steady_pous}
use Rattle.plcx_read.proofs.Completes.{Anything, Free, Told, Onward}
use Rattle.plcx_read.proofs.CompletesUnits.{pous_complete}
use Rattle.plcx_read.proofs.CompleteUnits.{complete_unit}
use Rattle.plcx_read.proofs.Sound.{passed}
use Rattle.plcx_read.proofs.SoundUnits.{all_pous_sound, nothing_left}
use Rattle.plcx_read.proofs.Shortest.{PouLists}

-- ---- places

-- the error of a fault at that byte
abbrev pub error_at : Fault → ℕ → TextError
error_at Syntax at = text.Syntax at
error_at TooDeep at = text.TooDeep at

pub record Placed (bound : ℕ) (ts : List Token) (f : Stop) : Type 0 where
  pub before : List Token
  pub rest : List Token
  pub parts : ts ≡ before ++ rest
  pub fault : Fault
  pub is : IsPlace bound before rest fault
  pub error : (end' : ℕ) → located end' f.0 f.1 ≡ error_at fault (start_of rest end')

placed : (bound : ℕ) (ts front rest : List Token) (c : Cause) → ts ≡ front ++ rest → Begins bound front → StopsAt bound front rest c → Placed bound ts (c, rest)
placed bound ts front [] syntax parts begins stops = record { before = front; rest = []; parts = parts; fault = Syntax; is = at_end begins stops; error = λ e. refl }
placed bound ts front [] too_deep parts begins stops = absurd stops
placed bound ts front [] (told_too_deep w) parts begins stops = absurd stops
placed bound ts front (x ∷ others) syntax parts begins stops = record { before = front; rest = x ∷ others; parts = parts; fault = Syntax; is = no_unit begins stops; error = λ e. refl }
placed bound ts front (x ∷ others) too_deep parts begins stops = record { before = front; rest = x ∷ others; parts = parts; fault = TooDeep; is = place.too_deep begins stops.0 stops.1; error = λ e. refl }
placed bound ts front (x ∷ others) (told_too_deep w) parts begins stops =
    let i = stops.1 in
    let deep : BeginsTooDeep bound (i.0 ++ w ∷ x ∷ []) = subst (λ (v : List Token). BeginsTooDeep bound v) (ap (λ (v : List Token). v ++ x ∷ []) i.1 ∙ two_more i.0 w x) stops.0 in
    record {
      before = i.0;
      rest = w ∷ x ∷ others;
      parts = parts ∙ ap (λ (v : List Token). v ++ x ∷ others) i.1 ∙ append_assoc i.0 (w ∷ []) (x ∷ others);
      fault = TooDeep;
      is = told (subst (λ (v : List Token). Begins bound v) i.1 begins) deep i.2;
      error = λ e. refl;
    }

-- ---- units

abbrev all : ℕ → Reader (List PouText)
all a ts = all_of begins_pou (pou a) ts

-- all of the tokens, or a fault at what is left
abbrev ended : Read (List PouText) → Result (List PouText) Stop
ended y = cond (eqb (length y.2) 0) (Ok y.0) (Err (syntax, y.2))

abbrev answers : List PouText → ℕ → List Token → Out (List PouText)
answers v d ts = Ok (v, d, ts)

regroup : (front : List Token) (x : Token) (more : List Token) → front ++ x ∷ more ≡ (front ++ x ∷ []) ++ more
regroup front x more = sym (append_assoc front (x ∷ []) more)

-- a unit is read to its end
reads_all : (ts : List Token) (ps : List PouText) (d a : ℕ) → ArePous ts ps d → d ≤ a → (v : List PouText) × (c : ℕ) × (all a ts ≡ Ok (v, c, []))
unfolding pous
reads_all ts ps d a is le =
    let b = bind_ok (all a ts) ended ps (complete_unit a ts ps d is le) in
    let y : Read (List PouText) = b.0 in
    let p = passed (eqb (length y.2) 0) (done y.0) (syntax, y.2) ps b.2 in
    (y.0, y.1, b.1 ∙ ap (λ (w : List Token). done (y.0, y.1, w)) (nothing_left y.2 p.0))

not_at_end : (v u : List PouText) (c d : ℕ) (x : Token) (more : List Token) → answers v c [] ≡ answers u d (x ∷ more) → ⊥
not_at_end v u c d x more h = (let e : [] ≡ x ∷ more = ap (λ (z : Read (List PouText)). z.2) (done_is (v, c, []) (u, d, x ∷ more) h) in cc)

-- what stops in front of a cut is no front of a unit, if the allowance of the unit may be larger
none_begins : (even : Type 0) (a a' : ℕ) → a ≤ a' → (even → a ≡ a') → (front : List Token) (x : Token) (others : List Token) (o : Outcome (List PouText)) → Firm even o → ((y : List Token) (v : List PouText) (c : ℕ) → seen o y ≡ done (v, c, []) → ⊥)
    → all a (front ++ x ∷ others) ≡ seen o others → (more : List Token) (ps : List PouText) (d : ℕ) → d ≤ a' → ArePous ((front ++ x ∷ []) ++ more) ps d → ⊥
none_begins even a a' le tie front x others o firm never h more ps d within is =
    let r = reads_all ((front ++ x ∷ []) ++ more) ps d a' is within in
    let s = (steady_pous even a a' le tie).stays o firm (front ++ x ∷ []) others more (ap (λ w. all a w) (sym (regroup front x others)) ∙ h) in
    never more r.0 r.1 (sym s ∙ r.2)

fault_never : (cause : Cause) (x : Token) (y : List Token) (v : List PouText) (c : ℕ) → seen (refused cause (x ∷ [])) y ≡ done (v, c, []) → ⊥
fault_never cause x y v c h = never_both (v, c, []) (cause, x ∷ y) (sym h)

module _ (a : ℕ) where
  no_text : (front : List Token) (x : Token) (others : List Token) → all a (front ++ x ∷ others) ≡ Err (syntax, x ∷ others) → BeginsDeep (front ++ x ∷ []) → ⊥
  no_text front x others h b =
      none_begins ⊥ a (max a b.2) (omega arith) (λ never. absurd never) front x others (refused syntax (x ∷ [])) (omega arith, tt) (fault_never syntax x) h b.0 b.1.pous b.2 (omega arith) b.3

  no_room : (cause : Cause) → Holds (Unit {0}) cause → (front : List Token) (x : Token) (others : List Token) → all a (front ++ x ∷ others) ≡ Err (cause, x ∷ others) → Begins a (front ++ x ∷ []) → ⊥
  no_room cause holds front x others h b =
      none_begins (Unit {0}) a a (omega arith) (λ _. refl) front x others (refused cause (x ∷ [])) (omega arith, holds) (fault_never cause x) h b.0 b.1.pous b.2 b.3 b.4

  -- a unit to which the next token does not belong
  no_more : (front : List Token) (x : Token) (others : List Token) (v : List PouText) (d : ℕ) → all a (front ++ x ∷ others) ≡ Ok (v, d, x ∷ others) → BeginsDeep (front ++ x ∷ []) → ⊥
  no_more front x others v d h b =
      none_begins ⊥ a (max a b.2) (omega arith) (λ never. absurd never) front x others (answered v d (x ∷ [])) (omega arith) (λ y u c e. not_at_end u v c d x y (sym e)) h b.0 b.1.pous b.2 (omega arith) b.3

  deeper : (front : List Token) (x : Token) (others : List Token) → Onward PouLists front (x ∷ others) → BeginsDeep (front ++ x ∷ [])
  deeper front x others o =
      let same' : o.token ≡ x = cc in
      (o.more, record { pous = o.whole.0 }, o.depth, subst (λ (w : List Token). ArePous w o.whole.0 o.depth) (ap (λ (u : Token). front ++ u ∷ o.more) same' ∙ regroup front x o.more) o.whole.1)

  -- where the first of what is left goes on without a limit, it is the next token
  same_next : (front : List Token) (x : Token) (others : List Token) (o : Onward PouLists front (x ∷ others)) → o.token ≡ x
  same_next front x others o = (let e : x ∷ others ≡ o.token ∷ o.others = o.parts in cc)

  none_next : (front : List Token) → Onward PouLists front [] → ⊥
  none_next front o = (let bad : [] ≡ o.token ∷ o.others = o.parts in absurd cc)

  stops_there : (front rest : List Token) (c : Cause) → (c ≡ too_deep → (o : Onward PouLists front rest) × Free Anything front o.token) → ((w : Token) → c ≡ told_too_deep w → (o : Onward PouLists front rest) × Told w front o.token)
      → all a (front ++ rest) ≡ Err (c, rest) → StopsAt a front rest c
  stops_there front [] syntax deep named h = λ i. (let r = reads_all front i.0.pous i.1 a i.3 i.2 in never_both (r.0, r.1, []) (syntax, []) (sym r.2 ∙ ap (λ w. all a w) (sym (append-nil front)) ∙ h))
  stops_there front [] too_deep deep named h = none_next front (deep refl).0
  stops_there front [] (told_too_deep w) deep named h = none_next front (named w refl).0
  stops_there front (x ∷ others) syntax deep named h = no_text front x others h
  stops_there front (x ∷ others) too_deep deep named h =
      let o = deep refl in
      ((deeper front x others o.0, no_room too_deep tt front x others h), subst (λ (u : Token). TellsLast front u → ⊥) (same_next front x others o.0) (o.1 [] tt))
  stops_there front (x ∷ others) (told_too_deep w) deep named h =
      let o = named w refl in
      ((deeper front x others o.0, no_room (told_too_deep w) tt front x others h), subst (λ (u : Token). Told w front u) (same_next front x others o.0) o.1)

  some_left : (n : ℕ) → eqb (suc n) 0 ≡ false
  some_left n = grind arith

  left_over : (ts : List Token) (y : Read (List PouText)) (f : Stop) → all a ts ≡ Ok y → (rest : List Token) → y.2 ≡ rest → cond (eqb (length rest) 0) (Ok y.0) (Err (syntax, rest)) ≡ Err f → Placed a ts f
  left_over ts y f h [] is bad = absurd (let no' : Ok y.0 ≡ Err f = bad in cc)
  left_over ts y f h (x ∷ others) is bad =
      let m = all_pous_sound a ts y h in
      let which : (syntax, x ∷ others) ≡ f = fault_is {A = List PouText} (syntax, x ∷ others) f (rw (some_left (length others)) at bad) in
      let parts : ts ≡ m.tokens ++ x ∷ others = m.parts ∙ ap (λ (w : List Token). m.tokens ++ w) is in
      let read : all a (m.tokens ++ x ∷ others) ≡ Ok (y.0, y.1, x ∷ others) = ap (λ w. all a w) (sym parts) ∙ h ∙ ap (λ (w : List Token). done (y.0, y.1, w)) is in
      let begins : Begins a m.tokens = ([], record { pous = y.0 }, y.1, m.within, subst (λ (w : List Token). ArePous w y.0 y.1) (sym (append-nil m.tokens)) m.is) in
      subst (λ (g : Stop). Placed a ts g) which (placed a ts m.tokens (x ∷ others) syntax parts begins (no_more m.tokens x others y.0 y.1 read))

pub pous_place : (b : ℕ) (ts : List Token) (f : Stop) → pous (suc b) ts ≡ Err f → Placed (suc b) ts f
unfolding pous
pous_place b ts f h =
    elim (bind_err (all (suc b) ts) ended f h) [
      | inl bad ↦
          let c = pous_complete b ts f bad in
          placed (suc b) ts c.front f.1 f.0 c.parts (c.begins.more, record { pous = c.begins.whole.0 }, c.begins.depth, c.begins.within, c.begins.whole.1)
          (stops_there (suc b) c.front f.1 f.0 c.deep c.named (ap (λ w. all (suc b) w) (sym c.parts) ∙ bad))
      | inr y ↦ left_over (suc b) ts y.0 f y.1 y.0.2 refl y.2
    ]
