-- Drafts whose names break no rule, and their projects.
use Rattle.std.proofs.Common.{◌≡◌, ℕ, Bool, true, false, ◌&&◌, List, [], ◌∷◌, ◌++◌, length, map, reverse, None, append_assoc, length-append, refl, sym, ap, ◌∙◌, arith}
use Rattle.std.specs.List.{list_all, flat_map}
use Rattle.std.proofs.lemmas.List.Folds.{list_all-map}
use Rattle.std.proofs.lemmas.List.{reverse-append}
use Rattle.plcx_types.specs.Name.{is_identifier}
use Rattle.plcx_model.specs.Verdict.{Never, Next}
use Rattle.plcx_model.specs.declared.project.Pou.{Pou}
use Rattle.plcx_draft.specs.declared.draft.DraftVariable.{DraftVariable}
use Rattle.plcx_draft.specs.declared.draft.DraftList.{DraftList}
use Rattle.plcx_draft.specs.declared.draft.DraftPou.{DraftPou}
use Rattle.plcx_draft.specs.declared.draft.Draft.{Draft}
use Rattle.plcx_profile.specs.declared.judging.DeclarationRule.TheVariants.{Names}
use Rattle.plcx_profile.specs.declared.settling.Head.{Head}
use Rattle.plcx_profile.specs.Declarations.{Declared, OfVariable, in_list, in_pou, declared_in, name_of}
use Rattle.plcx_profile.specs.Fine.{is_fine_list, is_fine_pou}
use Rattle.plcx_profile.specs.Heads.{head_of, with_head, joined}
use Rattle.plcx_profile.specs.Judged.{breaks, BreaksIn, DeclarationVerdict}
use Rattle.plcx_profile.specs.Names.{is_bad_name}
use Rattle.plcx_profile.specs.ProjectIn.{pou_of}

abbrev has_name : Declared → Bool
has_name x = is_identifier (name_of x)

both-true : (a b : Bool) → (a && b) ≡ true → (a ≡ true) × (b ≡ true)
both-true true b h = (refl, h)
both-true false b h = cc

good_by : (name : List ℕ) (b : Bool) → is_identifier name ≡ b → (is_bad_name name ≡ true → ⊥) → b ≡ true
unfolding is_bad_name
good_by name true is good = refl
good_by name false is good = absurd (good (rw is refl))

names_good : (pous : List DraftPou) (before xs : List Declared) → Never (BreaksIn pous Names) before xs → list_all has_name xs ≡ true
unfolding breaks
names_good pous before [] never = refl
names_good pous before (x ∷ xs) never = rw (good_by (name_of x) (is_identifier (name_of x)) refl never.0) (names_good pous (x ∷ before) xs never.1)

all_parts : {A : Type 0} (p : A → Bool) (xs ys : List A) → list_all p (xs ++ ys) ≡ true → (list_all p xs ≡ true) × (list_all p ys ≡ true)
all_parts p [] ys h = (refl, h)
all_parts p (x ∷ xs) ys h =
    let both = both-true (p x) (list_all p (xs ++ ys)) h in
    let rest = all_parts p xs ys both.1 in
    (rw (both.0, rest.0) refl, rest.1)

lists_fine : (lists : List DraftList) → list_all has_name (flat_map in_list lists) ≡ true → list_all is_fine_list lists ≡ true
lists_fine [] h = refl
lists_fine (l ∷ ls) h =
    let both = all_parts has_name (in_list l) (flat_map in_list ls) h in
    let here : is_fine_list l ≡ true = sym (list_all-map has_name (λ (v : DraftVariable). OfVariable l v) l.variables) ∙ both.0 in
    rw (here, lists_fine ls both.1) refl

pous_fine : (pous : List DraftPou) → list_all has_name (flat_map in_pou pous) ≡ true → list_all is_fine_pou pous ≡ true
pous_fine [] h = refl
pous_fine (p ∷ ps) h =
    let both = all_parts has_name (in_pou p) (flat_map in_pou ps) h in
    let inner = both-true (is_identifier p.name) (list_all has_name (flat_map in_list p.lists)) both.0 in
    rw (inner.0, lists_fine p.lists inner.1, pous_fine ps both.1) refl

pub draft_fine : (draft : Draft) → DeclarationVerdict draft None → list_all is_fine_pou draft.pous ≡ true
unfolding declared_in
draft_fine draft (Next never rest) = pous_fine draft.pous (names_good draft.pous [] (flat_map in_pou draft.pous) never)

-- heads and drafts, one more at their ends
pub joined_more : (hs : List Head) (ps : List DraftPou) (h : Head) (p : DraftPou) → length hs ≡ length ps → joined (hs ++ h ∷ []) (ps ++ p ∷ []) ≡ joined hs ps ++ with_head h p ∷ []
joined_more [] [] h p same = refl
joined_more [] (q ∷ ps) h p same = absurd (omega arith)
joined_more (g ∷ hs) [] h p same = absurd (omega arith)
joined_more (g ∷ hs) (q ∷ ps) h p same = ap (λ rest. with_head g q ∷ rest) (joined_more hs ps h p (omega arith))

pub joined_all : (pous ps : List DraftPou) → joined (map (head_of pous) ps) ps ≡ map (pou_of pous) ps
unfolding pou_of
joined_all pous [] = refl
joined_all pous (p ∷ ps) = ap (λ rest. pou_of pous p ∷ rest) (joined_all pous ps)

-- one more head and draft joined
pub joined_step : (hs : List Head) (ps : List DraftPou) (h : Head) (p : DraftPou) (all total : List Pou) → length (hs ++ h ∷ []) ≡ length (ps ++ p ∷ []) → joined (hs ++ h ∷ []) (ps ++ p ∷ []) ++ reverse all ≡ total
    → (length hs ≡ length ps) × (joined hs ps ++ reverse (all ++ with_head h p ∷ []) ≡ total)
joined_step hs ps h p all total same made =
    let left = length-append hs (h ∷ []) in
    let right = length-append ps (p ∷ []) in
    let equal : length hs ≡ length ps = omega arith in (
      equal,
      ap (λ r. joined hs ps ++ r) (reverse-append all (with_head h p ∷ [])) ∙ sym (append_assoc (joined hs ps) (with_head h p ∷ []) (reverse all))
          ∙ ap (λ xs. xs ++ reverse all) (sym (joined_more hs ps h p equal)) ∙ made,
    )
