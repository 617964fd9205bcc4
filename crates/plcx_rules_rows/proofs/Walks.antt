-- A verdict as it computes, where each rule is decided at each item.
use Rattle.std.proofs.Common.{◌≡◌, Bool, true, false, cond, List, [], ◌∷◌, Option, Some, None, refl}
use Rattle.std.specs.Bool.{Decides}
use Rattle.std.specs.List.{find}
use Rattle.plcx_types.specs.Lists.{Each}
use Rattle.plcx_model.specs.Verdict.{IsFirst, Here, Later, Never, Verdict, Kept, Broken, Next}

module _ {A : Type 0} (test : A → Bool) (P : List A → A → Type 0) where
  abbrev pub IsDecided : A → Type 0
  IsDecided x = (before : List A) → Decides (test x) (P before x)

  abbrev pub Found : List A → List A → Option A → Type 0
  Found before xs None = Never P before xs
  Found before xs (Some x) = IsFirst P before xs x

  pick : (b : Bool) (before : List A) (x : A) (xs : List A) (o : Option A) → test x ≡ b → IsDecided x → Found (x ∷ before) xs o → Found before (x ∷ xs) (cond b (Some x) o)
  pick true before x xs o is d rest = Here ((d before).0 is)
  pick false before x xs None is d rest = ((λ p. let h = (d before).1 p in cc), rest)
  pick false before x xs (Some y) is d rest = Later (λ p. let h = (d before).1 p in cc) rest

  pub found : (before xs : List A) → Each IsDecided xs → Found before xs (find test xs)
  found before [] each = tt
  found before (x ∷ xs) each = pick (test x) before x xs (find test xs) refl each.0 (found (x ∷ before) xs each.1)

-- a rule that is broken, or what the later ones tell
abbrev pub tell : {R A P : Type 0} → (R → A → P) → R → Option A → Option (R × P) → Option (R × P)
tell place r None later = later
tell place r (Some x) later = Some (r, place r x)

module _ {R A P : Type 0} (Breaks : R → List A → A → Type 0) (place : R → A → P) (items : List A) (test : R → A → Bool) where
  abbrev pub answer : List R → Option (R × P)
  answer [] = None
  answer (r ∷ rs) = tell place r (find (test r) items) (answer rs)

  one_more : (r : R) (rs : List R) (o : Option A) (v : Option (R × P)) → Found (test r) (Breaks r) [] items o → Verdict Breaks place items rs v → Verdict Breaks place items (r ∷ rs) (tell place r o v)
  one_more r rs None v never rest = Next never rest
  one_more r rs (Some x) v first rest = Broken first

  pub judged : ((r : R) → Each (IsDecided (test r) (Breaks r)) items) → (rs : List R) → Verdict Breaks place items rs (answer rs)
  judged each [] = Kept
  judged each (r ∷ rs) = one_more r rs (find (test r) items) (answer rs) (found (test r) (Breaks r) [] items (each r)) (judged each rs)

pub each_of : {A : Type 0} (P Q : A → Type 0) → ((x : A) → P x → Q x) → (xs : List A) → Each P xs → Each Q xs
each_of P Q f [] h = tt
each_of P Q f (x ∷ xs) h = (f x h.0, each_of P Q f xs h.1)

pub each_all : {A : Type 0} (Q : A → Type 0) → ((x : A) → Q x) → (xs : List A) → Each Q xs
each_all Q f [] = tt
each_all Q f (x ∷ xs) = (f x, each_all Q f xs)
