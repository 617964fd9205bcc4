-- Tokens have one place of a fault at most, and none where they are a unit.
use Rattle.std.proofs.Common.{◌≡◌, ℕ, List, [], ◌∷◌, ◌++◌, drop, refl, sym, ap, subst, ◌∙◌, append_assoc, inl, inr, ◌⊎◌}
use Rattle.std.proofs.lemmas.List.{append-nil, append_cancel_right}
use Rattle.plcx_lex.specs.Token.{Token}
use Rattle.plcx_st.specs.Grammar.{IsUnit}
use Rattle.plcx_st.specs.Place.{Fault, Syntax, TooDeep, Begins, BeginsDeep, BeginsTooDeep, IsFine, IsTold, TellsLast, IsPlace, at_end, no_unit, told}
use Rattle.plcx_st.specs.Place as place
use Rattle.plcx_read.specs.Reading.{Cause, syntax, too_deep, told_too_deep}
use Rattle.plcx_read.proofs.Completes.{Told, last_is}

-- ---- two ways to part a list

-- the first ends one token or more before the second
record Before (p r q s : List Token) : Type 0 where
  token : Token
  between : List Token
  longer : q ≡ p ++ token ∷ between
  rest : r ≡ token ∷ between ++ s

-- at one place, or one before the other
Parted : (p r q s : List Token) → Type 0
Parted p r q s = ((p ≡ q) × (r ≡ s)) ⊎ (Before p r q s ⊎ Before q s p r)

parted : (p r q s : List Token) → p ++ r ≡ q ++ s → Parted p r q s
unfolding Parted
parted [] r [] s h = inl (refl, h)
parted [] r (b ∷ q) s h = inr (inl (record { token = b; between = q; longer = refl; rest = h }))
parted (a ∷ p) r [] s h = inr (inr (record { token = a; between = p; longer = refl; rest = sym h }))
parted (a ∷ p) r (b ∷ q) s h =
    let same : a ≡ b = cc in
    elim (parted p r q s (ap (λ (w : List Token). drop 1 w) h)) [
      | inl e ↦ inl (ap (λ (w : List Token). a ∷ w) e.0 ∙ ap (λ (x : Token). x ∷ q) same, e.1)
      | inr o ↦ elim o [
        | inl e ↦ inr (inl (record { token = e.token; between = e.between; rest = e.rest; longer = ap (λ (w : List Token). b ∷ w) e.longer ∙ ap (λ (x : Token). x ∷ p ++ e.token ∷ e.between) (sym same) }))
        | inr e ↦ inr (inr (record { token = e.token; between = e.between; rest = e.rest; longer = ap (λ (w : List Token). a ∷ w) e.longer ∙ ap (λ (x : Token). x ∷ q ++ e.token ∷ e.between) same }))
      ]
    ]

-- ---- where tokens stop

-- With the next token what stands before it begins no unit: none at all, or none within the bound. Where no token is left, the tokens are no unit.
abbrev pub StopsAt : ℕ → List Token → List Token → Cause → Type 0
StopsAt bound front [] syntax = IsFine bound front → ⊥
StopsAt bound front [] _ = ⊥
StopsAt bound front (x ∷ rest) syntax = BeginsDeep (front ++ x ∷ []) → ⊥
StopsAt bound front (x ∷ rest) too_deep = BeginsTooDeep bound (front ++ x ∷ []) × (TellsLast front x → ⊥)
StopsAt bound front (x ∷ rest) (told_too_deep w) = BeginsTooDeep bound (front ++ x ∷ []) × Told w front x

-- the place of what stops there: a name that is told by the sign behind it is the place for both
abbrev pub Stands : Cause → (front left before rest : List Token) → Fault → Type 0
Stands syntax front left before rest f = (before ≡ front) × (rest ≡ left) × (f ≡ Syntax)
Stands too_deep front left before rest f = (before ≡ front) × (rest ≡ left) × (f ≡ TooDeep)
Stands (told_too_deep w) front left before rest f = (before ++ w ∷ [] ≡ front) × (rest ≡ w ∷ left) × (f ≡ TooDeep)

record Stopped (bound : ℕ) (before rest : List Token) (f : Fault) : Type 0 where
  cause : Cause
  front : List Token
  left : List Token
  begins : Begins bound front
  stops : StopsAt bound front left cause
  stands : Stands cause front left before rest f

pub two_more : (before : List Token) (w s : Token) → (before ++ w ∷ []) ++ s ∷ [] ≡ before ++ w ∷ s ∷ []
two_more before w s = append_assoc before (w ∷ []) (s ∷ [])

stopped : (bound : ℕ) (before rest : List Token) (f : Fault) → IsPlace bound before rest f → Stopped bound before rest f
stopped bound before rest f (at_end begins other) = record { cause = syntax; front = before; left = []; begins = begins; stops = other; stands = (refl, refl, refl) }
stopped bound before (x ∷ rest) f (no_unit begins other) = record { cause = syntax; front = before; left = x ∷ rest; begins = begins; stops = other; stands = (refl, refl, refl) }
stopped bound before (x ∷ rest) f (place.too_deep begins deep other) = record { cause = too_deep; front = before; left = x ∷ rest; begins = begins; stops = (deep, other); stands = (refl, refl, refl) }
stopped bound before (w ∷ s ∷ rest) f (told begins deep tells) = record {
  cause = told_too_deep w;
  front = before ++ w ∷ [];
  left = s ∷ rest;
  begins = begins;
  stops = (subst (λ (v : List Token). BeginsTooDeep bound v) (sym (two_more before w s)) deep, (before, refl, tells));
  stands = (refl, refl, refl);
}

-- the same tokens
same_tokens : (cause : Cause) (front left before rest : List Token) (f : Fault) → Stands cause front left before rest f → before ++ rest ≡ front ++ left
same_tokens syntax front left before rest f s = ap (λ (v : List Token). v ++ rest) s.0 ∙ ap (λ (v : List Token). front ++ v) s.1
same_tokens too_deep front left before rest f s = ap (λ (v : List Token). v ++ rest) s.0 ∙ ap (λ (v : List Token). front ++ v) s.1
same_tokens (told_too_deep w) front left before rest f s = ap (λ (v : List Token). before ++ v) s.1 ∙ sym (append_assoc before (w ∷ []) left) ∙ ap (λ (v : List Token). v ++ left) s.0

same_place : (cause : Cause) (front left before rest other others : List Token) (f g : Fault) → Stands cause front left before rest f → Stands cause front left other others g → (before ≡ other) × (rest ≡ others) × (f ≡ g)
same_place syntax front left before rest other others f g a b = (a.0 ∙ sym b.0, a.1 ∙ sym b.1, a.2 ∙ sym b.2)
same_place too_deep front left before rest other others f g a b = (a.0 ∙ sym b.0, a.1 ∙ sym b.1, a.2 ∙ sym b.2)
same_place (told_too_deep w) front left before rest other others f g a b = (append_cancel_right before other (w ∷ []) (a.0 ∙ sym b.0), a.1 ∙ sym b.1, a.2 ∙ sym b.2)

-- ---- what stops is no front

module _ (bound : ℕ) where
  begins_less : (front : List Token) (x : Token) (others : List Token) → Begins bound (front ++ x ∷ others) → Begins bound (front ++ x ∷ [])
  begins_less front x others b = (others ++ b.0, b.1, b.2, b.3, subst (λ (w : List Token). IsUnit w b.1 b.2) (append_assoc front (x ∷ others) b.0 ∙ sym (append_assoc front (x ∷ []) (others ++ b.0))) b.4)

  stops : (front : List Token) (x : Token) (rest : List Token) (c : Cause) → StopsAt bound front (x ∷ rest) c → Begins bound (front ++ x ∷ []) → ⊥
  stops front x rest syntax s b = s (b.0, b.1, b.2, b.4)
  stops front x rest too_deep s b = s.0.1 b
  stops front x rest (told_too_deep w) s b = s.0.1 b

  -- a place before another
  apart : (p r q s : List Token) (c : Cause) → StopsAt bound p r c → Begins bound q → Before p r q s → ⊥
  apart p r q s c stop begins b =
      stops p b.token (b.between ++ s) c (subst (λ (w : List Token). StopsAt bound p w c) b.rest stop) (begins_less p b.token b.between (subst (λ (w : List Token). Begins bound w) b.longer begins))

  told_last : (front : List Token) (w : Token) (x : Token) → Told w front x → TellsLast front x
  told_last front w x i = (i.0, w, i.1, i.2)

  same_name : (front : List Token) (w v x : Token) → Told w front x → Told v front x → w ≡ v
  same_name front w v x a b = last_is b.0 a.0 w v (sym a.1 ∙ b.1)

  same_cause : (front rest : List Token) (c e : Cause) → StopsAt bound front rest c → StopsAt bound front rest e → c ≡ e
  same_cause front [] syntax syntax s o = refl
  same_cause front [] syntax too_deep s o = absurd o
  same_cause front [] syntax (told_too_deep w) s o = absurd o
  same_cause front [] too_deep e s o = absurd s
  same_cause front [] (told_too_deep w) e s o = absurd s
  same_cause front (x ∷ rest) syntax syntax s o = refl
  same_cause front (x ∷ rest) syntax too_deep s o = absurd (s o.0.0)
  same_cause front (x ∷ rest) syntax (told_too_deep w) s o = absurd (s o.0.0)
  same_cause front (x ∷ rest) too_deep syntax s o = absurd (o s.0.0)
  same_cause front (x ∷ rest) too_deep too_deep s o = refl
  same_cause front (x ∷ rest) too_deep (told_too_deep w) s o = absurd (s.1 (told_last front w x o.1))
  same_cause front (x ∷ rest) (told_too_deep w) syntax s o = absurd (o s.0.0)
  same_cause front (x ∷ rest) (told_too_deep w) too_deep s o = absurd (o.1 (told_last front w x s.1))
  same_cause front (x ∷ rest) (told_too_deep w) (told_too_deep v) s o = ap (λ (u : Token). told_too_deep u) (same_name front w v x s.1 o.1)

  -- ---- the laws

  pub one_place : (before rest other others : List Token) (f g : Fault) → before ++ rest ≡ other ++ others → IsPlace bound before rest f → IsPlace bound other others g → (before ≡ other) × (rest ≡ others) × (f ≡ g)
  unfolding Parted
  one_place before rest other others f g same a b =
      let p = stopped bound before rest f a in
      let q = stopped bound other others g b in
      elim (parted p.front p.left q.front q.left (sym (same_tokens p.cause p.front p.left before rest f p.stands) ∙ same ∙ same_tokens q.cause q.front q.left other others g q.stands)) [
        | inl e ↦
            let at : StopsAt bound q.front q.left p.cause = subst (λ (w : List Token). StopsAt bound w q.left p.cause) e.0 (subst (λ (w : List Token). StopsAt bound p.front w p.cause) e.1 p.stops) in
            let c = same_cause q.front q.left p.cause q.cause at q.stops in
            let s : Stands p.cause q.front q.left before rest f = subst (λ (w : List Token). Stands p.cause w q.left before rest f) e.0 (subst (λ (w : List Token). Stands p.cause p.front w before rest f) e.1 p.stands) in
            same_place q.cause q.front q.left before rest other others f g (subst (λ (i : Cause). Stands i q.front q.left before rest f) c s) q.stands
        | inr o ↦ elim o [
          | inl h ↦ absurd (apart p.front p.left q.front q.left p.cause p.stops q.begins h)
          | inr h ↦ absurd (apart q.front q.left p.front p.left q.cause q.stops p.begins h)
        ]
      ]

  none_inside : (front rest : List Token) (c : Cause) → StopsAt bound front rest c → IsFine bound (front ++ rest) → ⊥
  none_inside front [] syntax s i = s (subst (λ (w : List Token). IsFine bound w) (append-nil front) i)
  none_inside front [] too_deep s i = s
  none_inside front [] (told_too_deep w) s i = s
  none_inside front (x ∷ rest) c s i = stops front x rest c s (rest, i.0, i.1, i.2, subst (λ (w : List Token). IsUnit w i.0 i.1) (sym (append_assoc front (x ∷ []) rest)) i.3)

  pub no_place : (before rest : List Token) (f : Fault) → IsPlace bound before rest f → IsFine bound (before ++ rest) → ⊥
  no_place before rest f a i =
      let p = stopped bound before rest f a in
      none_inside p.front p.left p.cause p.stops (subst (λ (w : List Token). IsFine bound w) (same_tokens p.cause p.front p.left before rest f p.stands) i)
