-- What can be decided, so that a least can be taken.
use Rattle.std.proofs.Common.{◌≡◌, ℕ, zero, suc, ◌<◌, ◌⊎◌, inl, inr, List, [], ◌∷◌, subst, sym, arith}
use Rattle.std.proofs.lemmas.Bool.{cases_lt, cases_eq}
use Rattle.plcx_model.specs.Networks.{Listed}

abbrev pub Dec : Type 0 → Type 0
Dec P = P ⊎ (P → ⊥)

pub both : {P Q : Type 0} → Dec P → Dec Q → Dec (P × Q)
both (inl p) (inl q) = inl (p, q)
both (inl p) (inr q) = inr (λ h. q h.1)
both (inr p) d = inr (λ h. p h.0)

pub either : {P Q : Type 0} → Dec P → Dec Q → Dec (P ⊎ Q)
either (inl p) d = inl (inl p)
either (inr p) (inl q) = inl (inr q)
either (inr p) (inr q) = inr (λ h. elim h [ inl a ↦ p a | inr b ↦ q b ])

pub implies : {P Q : Type 0} → Dec P → Dec Q → Dec (P → Q)
implies d (inl q) = inl (λ _. q)
implies (inl p) (inr q) = inr (λ h. q (h p))
implies (inr p) (inr q) = inl (λ a. absurd (p a))

pub not_so : {P : Type 0} → Dec P → Dec (P → ⊥)
not_so (inl p) = inr (λ h. h p)
not_so (inr p) = inl p

pub along : {P Q : Type 0} → (P → Q) → (Q → P) → Dec P → Dec Q
along f g (inl p) = inl (f p)
along f g (inr p) = inr (λ q. p (g q))

pub same : (a b : ℕ) → Dec (a ≡ b)
same a b = cases_eq a b

pub listed_or_not : (xs : List ℕ) (v : ℕ) → Dec (Listed xs v)
listed_or_not [] v = inr (λ h. h)
listed_or_not (x ∷ xs) v = either (same v x) (listed_or_not xs v)

-- some number below k, or none
pub some_below : (P : ℕ → Type 0) → ((i : ℕ) → Dec (P i)) → (k : ℕ) → ((i : ℕ) × (i < k) × P i) ⊎ ((i : ℕ) → i < k → P i → ⊥)
some_below P d zero = inr (λ i h p. omega arith)
some_below P d (suc k) = elim (some_below P d k) [
  | inl found ↦ inl (found.0, omega (arith, found.1), found.2)
  | inr none ↦ elim (d k) [
    | inl p ↦ inl (k, omega arith, p)
    | inr no' ↦ inr (λ i h p. elim (cases_lt i k) [ inl lt ↦ none i lt p | inr ge ↦ let is : i ≡ k = omega arith in no' (subst P is p) ])
  ]
]

-- what holds below k and at k
pub at_or_below : (P : ℕ → Type 0) (k v : ℕ) → v < suc k → P k → ((x : ℕ) → x < k → P x) → P v
at_or_below P k v h here below = elim (cases_lt v k) [ inl lt ↦ below v lt | inr ge ↦ let is : v ≡ k = omega arith in subst P (sym is) here ]

-- of the numbers below k of which P holds, one that no other of them is before
pub least_below : (P : ℕ → Type 0) (B : ℕ → ℕ → Type 0) → ((v : ℕ) → Dec (P v)) → ((u v : ℕ) → Dec (B u v)) → ((u : ℕ) → B u u → ⊥) → ((u v w : ℕ) → B u v → B v w → B u w) → (k : ℕ) → ((v : ℕ) → v < k → P v → ⊥) ⊎ ((m : ℕ) × (m < k) × P m × ((v : ℕ) → v < k → P v → B v m → ⊥))
least_below P B p b irreflexive next zero = inl (λ v lt h. omega arith)
least_below P B p b irreflexive next (suc k) = elim (p k) [
  | inr not ↦ elim (least_below P B p b irreflexive next k) [
    | inl none ↦ inl (λ v lt. at_or_below (λ x. P x → ⊥) k v lt not none)
    | inr found ↦ inr (found.0, omega (arith, found.1), found.2, λ v lt. at_or_below (λ x. P x → B x found.0 → ⊥) k v lt (λ h _. not h) found.3)
  ]
  | inl it ↦ elim (least_below P B p b irreflexive next k) [
    | inl none ↦ inr (k, omega arith, it, λ v lt. at_or_below (λ x. P x → B x k → ⊥) k v lt (λ _ h. irreflexive k h) (λ x h l _. none x h l))
    | inr found ↦ elim (b k found.0) [
      | inl less ↦ inr (k, omega arith, it, λ v lt. at_or_below (λ x. P x → B x k → ⊥) k v lt (λ _ h. irreflexive k h) (λ x h l before. found.3 x h l (next x k found.0 before less)))
      | inr not ↦ inr (found.0, omega (arith, found.1), found.2, λ v lt. at_or_below (λ x. P x → B x found.0 → ⊥) k v lt (λ _ h. not h) found.3)
    ]
  ]
]
