-- What the rules promise of the element at a place.
use Rattle.std.proofs.Common.{◌≡◌, ℕ, zero, suc, ◌+◌, false, List, [], ◌∷◌, Some, None, slice_get, subst, arith}
use Rattle.plcx_types.specs.Lists.{Each}
use Rattle.plcx_model.specs.declared.body.BodyElement.{BodyElement}
use Rattle.plcx_model.specs.declared.project.Pou.{Pou}
use Rattle.plcx_model.specs.declared.project.Project.{Project}
use Rattle.plcx_rules.specs.declared.rule.LinkRule.{LinkRule}
use Rattle.plcx_rules.specs.CheckVerdict.{CheckVerdict, Unbroken}
use Rattle.plcx_rules.specs.Items.{Item, items_in, items_from, items_of}
use Rattle.plcx_rules.specs.LinkRules.{breaks, LinkVerdict}
use Rattle.plcx_rules.specs.Sources.{links_of}
use Rattle.plcx_rules.specs.TypingRules.{TypingVerdict}
use Rattle.plcx_rules.proofs.Kept.{none_breaks}
use Rattle.plcx_rules.proofs.Lists.{each_split}

-- both verdicts of a project that breaks no rule
pub link_verdict : (project : Project) → CheckVerdict project None → LinkVerdict project None
link_verdict project (Unbroken links types) = links

pub typing_verdict : (project : Project) → CheckVerdict project None → TypingVerdict project (links_of project.pous) None
typing_verdict project (Unbroken links types) = types

abbrev pub item : ℕ → Pou → ℕ → BodyElement → Item
item pou owner place e = record { pou = pou; owner = owner; place = place; element = e }

in_body : (P : Item → Type 0) (pou : ℕ) (owner : Pou) (n : ℕ) (es : List BodyElement) → Each P (items_in pou owner n es) → (j : ℕ) (e : BodyElement) → slice_get es j ≡ Some e → P (item pou owner (n + j) e)
in_body P pou owner n [] all j e at = absurd (cc)
in_body P pou owner n (x ∷ es) all zero e at =
    let same : x ≡ e = cc in
    let stays : n ≡ n + 0 = omega arith in
    subst (λ m. P (item pou owner m e)) stays (subst (λ y. P (item pou owner n y)) same all.0)
in_body P pou owner n (x ∷ es) all (suc j) e at =
    let moved : n + 1 + j ≡ n + suc j = omega arith in
    subst (λ m. P (item pou owner m e)) moved (in_body P pou owner (n + 1) es all.1 j e at)

in_bodies : (P : Item → Type 0) (k : ℕ) (ps : List Pou) → Each P (items_from k ps) → (i : ℕ) (p : Pou) → slice_get ps i ≡ Some p → (j : ℕ) (e : BodyElement) → slice_get p.body.elements j ≡ Some e → P (item (k + i) p j e)
in_bodies P k [] all i p at j e there = absurd (cc)
in_bodies P k (q ∷ ps) all zero p at j e there =
    let both = each_split P (items_in k q 0 q.body.elements) (items_from (k + 1) ps) all in
    let same : q ≡ p = cc in
    let stays : k ≡ k + 0 = omega arith in
    let here : (r : Pou) → Each P (items_in k r 0 r.body.elements) → slice_get r.body.elements j ≡ Some e → P (item k r (0 + j) e) = λ r own k'. in_body P k r 0 r.body.elements own j e k' in
    let first : 0 + j ≡ j = omega arith in
    subst (λ m. P (item m p j e)) stays (subst (λ m. P (item k p m e)) first (here p (subst (λ (r : Pou). Each P (items_in k r 0 r.body.elements)) same both.0) there))
in_bodies P k (q ∷ ps) all (suc i) p at j e there =
    let both = each_split P (items_in k q 0 q.body.elements) (items_from (k + 1) ps) all in
    let moved : k + 1 + i ≡ k + suc i = omega arith in
    subst (λ m. P (item m p j e)) moved (in_bodies P (k + 1) ps both.1 i p at j e there)

-- what holds of each item holds of the element at a place
pub at_item : (P : Item → Type 0) (pous : List Pou) → Each P (items_of pous) → (i : ℕ) (p : Pou) → slice_get pous i ≡ Some p → (j : ℕ) (e : BodyElement) → slice_get p.body.elements j ≡ Some e → P (item i p j e)
unfolding items_of
at_item P pous all i p at j e there =
    let stays : 0 + i ≡ i = omega arith in
    subst (λ m. P (item m p j e)) stays (in_bodies P 0 pous all i p at j e there)

-- no rule from 20 to 33 is broken there
pub kept_at : (project : Project) → LinkVerdict project None → (r : LinkRule) (i : ℕ) (p : Pou) → slice_get project.pous i ≡ Some p → (j : ℕ) (e : BodyElement) → slice_get p.body.elements j ≡ Some e → breaks project.pous r (item i p j e) ≡ false
kept_at project v r i p at j e there = at_item (λ (x : Item). breaks project.pous r x ≡ false) project.pous (none_breaks project v r) i p at j e there
