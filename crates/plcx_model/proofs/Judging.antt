-- From the first that passes a test to a verdict, whatever is judged.
use Rattle.std.proofs.Common.{◌≡◌, ℕ, ◌+◌, ◌<◌, ◌≤◌, Bool, true, false, cond, List, [], ◌∷◌, length, drop, get_or, Option, Some, None, option_map, refl, sym, ap, subst}
use Rattle.std.specs.List.{find}
use Rattle.std.proofs.lemmas.List.{at_drop_more, at_drop_all}
use Rattle.plcx_model.specs.Verdict.{IsFirst, Here, Later, Never, Verdict, Kept, Broken, Next, first_breaking}

not-both : (b : Bool) → b ≡ false → b ≡ true → ⊥
not-both true h k = cc
not-both false h k = cc

-- a test that isn't told those before
pub as-find : {A : Type 0} (test : A → Bool) (before xs : List A) → first_breaking (λ (b : List A). test) before xs ≡ find test xs
as-find test before [] = refl
as-find test before (x ∷ xs) = ap (λ o. cond (test x) (Some x) o) (as-find test (x ∷ before) xs)

module _ {A P : Type 0} (test : List A → A → Bool) (place : A → P) where
  abbrev Passes : List A → A → Type 0
  Passes before x = test before x ≡ true

  abbrev At : List A → List A → P → Type 0
  At before xs p = (y : A) × IsFirst Passes before xs y × (place y ≡ p)

  none-passes : (b : Bool) (before : List A) (x : A) (xs : List A) → test before x ≡ b → (None ≡ option_map place (first_breaking test (x ∷ before) xs) → Never Passes (x ∷ before) xs) → None ≡ option_map place (cond b (Some x) (first_breaking test (x ∷ before) xs)) → Never Passes before (x ∷ xs)
  none-passes true before x xs is more h = cc
  none-passes false before x xs is more h = (λ k. not-both (test before x) is k, more h)

  pub never : (before xs : List A) → None ≡ option_map place (first_breaking test before xs) → Never Passes before xs
  never before [] h = tt
  never before (x ∷ xs) h = none-passes (test before x) before x xs refl (never (x ∷ before) xs) h

  some-passes : (b : Bool) (before : List A) (x : A) (xs : List A) (p : P) → test before x ≡ b → (Some p ≡ option_map place (first_breaking test (x ∷ before) xs) → At (x ∷ before) xs p) → Some p ≡ option_map place (cond b (Some x) (first_breaking test (x ∷ before) xs)) → At before (x ∷ xs) p
  some-passes true before x xs p is more h = (x, Here is, cc)
  some-passes false before x xs p is more h = let rest = more h in (rest.0, Later (λ k. not-both (test before x) is k) rest.1, rest.2)

  pub first : (before xs : List A) (p : P) → Some p ≡ option_map place (first_breaking test before xs) → At before xs p
  first before [] p h = cc
  first before (x ∷ xs) p h = some-passes (test before x) before x xs p refl (first (x ∷ before) xs p) h

-- one rule more
module _ {R A P : Type 0} (test : R → List A → A → Bool) (place : R → A → P) (items : List A) (rules : List R) (i : ℕ) where
  abbrev Judged : List R → Option (R × P) → Type 0
  Judged = Verdict (λ r b x. test r b x ≡ true) place items

  pub kept : length rules ≤ i → Judged (drop i rules) None
  kept h = let J : List R → Type 0 = λ rs. Judged rs None in subst J (sym (at_drop_all (λ (ys : List R). ys) rules i h)) Kept

  pub broken : (d : R) (p : P) → i < length rules → Some p ≡ option_map (place (get_or rules i d)) (first_breaking (test (get_or rules i d)) [] items) → Judged (drop i rules) (Some (get_or rules i d, p))
  broken d p h found =
      let r = get_or rules i d in
      let x = first (test r) (place r) [] items p found in
      let here : Judged (r ∷ drop (i + 1) rules) (Some (r, place r x.0)) = Broken x.1 in
      let J : List R → Type 0 = λ rs. Judged rs (Some (r, p)) in
      let Q : P → Type 0 = λ q. Judged (r ∷ drop (i + 1) rules) (Some (r, q)) in
      subst J (sym (at_drop_more (λ (ys : List R). ys) rules i d h)) (subst Q x.2 here)

  pub next : (d : R) (v : Option (R × P)) → i < length rules → None ≡ option_map (place (get_or rules i d)) (first_breaking (test (get_or rules i d)) [] items) → Judged (drop (i + 1) rules) v → Judged (drop i rules) v
  next d v h none rest =
      let r = get_or rules i d in
      let J : List R → Type 0 = λ rs. Judged rs v in
      subst J (sym (at_drop_more (λ (ys : List R). ys) rules i d h)) (Next (never (test r) (place r) [] items none) rest)
