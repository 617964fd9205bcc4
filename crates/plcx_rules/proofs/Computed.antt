-- What computes the verdict gives it.
use Rattle.std.proofs.Common.{◌≡◌, Bool, true, false, cond, List, [], ◌∷◌, Option, Some, None, refl}
use Rattle.std.specs.List.{find}
use Rattle.plcx_model.specs.declared.broken.Place.{Place}
use Rattle.plcx_model.specs.declared.project.Pou.{Pou}
use Rattle.plcx_model.specs.Verdict.{IsFirst, Here, Later, Never, Verdict, Kept, Broken, Next}
use Rattle.plcx_rules.specs.declared.rule.LinkRule.{LinkRule}
use Rattle.plcx_rules.specs.Items.{Item, items_of}
use Rattle.plcx_rules.specs.LinkRules.{breaks, BreaksLink, link_place, answer_or, first_of_rules}

module _ {A : Type 0} (test : A → Bool) where
  abbrev Passes : List A → A → Type 0
  Passes before x = test x ≡ true

  -- the first that passes, or none
  abbrev pub Found : List A → List A → Option A → Type 0
  Found before xs None = Never Passes before xs
  Found before xs (Some x) = IsFirst Passes before xs x

  pick : (b : Bool) (before : List A) (x : A) (xs : List A) (o : Option A) → test x ≡ b → Found (x ∷ before) xs o → Found before (x ∷ xs) (cond b (Some x) o)
  pick true before x xs o is rest = Here is
  pick false before x xs None is rest = ((λ k. cc), rest)
  pick false before x xs (Some y) is rest = Later (λ k. cc) rest

  pub found : (before xs : List A) → Found before xs (find test xs)
  found before [] = tt
  found before (x ∷ xs) = pick (test x) before x xs (find test xs) refl (found (x ∷ before) xs)

abbrev Judged : List Pou → List LinkRule → Option (LinkRule × Place) → Type 0
Judged pous rules v = Verdict (BreaksLink pous) link_place (items_of pous) rules v

one_more : (pous : List Pou) (r : LinkRule) (rules : List LinkRule) (o : Option Item) (v : Option (LinkRule × Place)) → Found (breaks pous r) [] (items_of pous) o → Judged pous rules v → Judged pous (r ∷ rules) (answer_or r o v)
one_more pous r rules None v never rest = Next never rest
one_more pous r rules (Some x) v first rest = Broken first

pub computed : (pous : List Pou) (rules : List LinkRule) → Judged pous rules (first_of_rules pous rules)
computed pous [] = Kept
computed pous (r ∷ rules) = one_more pous r rules (find (breaks pous r) (items_of pous)) (first_of_rules pous rules) (found (breaks pous r) [] (items_of pous)) (computed pous rules)
