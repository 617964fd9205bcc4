-- Chains of instances in a project are those of its file.
use Rattle.std.proofs.Common.{◌≡◌, ℕ, zero, suc, Bool, false, List, [], ◌∷◌, map, Option, Some, None, option_map, option_and_then, option_to_list, is_none, slice_get, refl, sym, ap, subst, ◌∙◌}
use Rattle.std.specs.List.{list_any, flat_map, fold}
use Rattle.std.proofs.lemmas.List.Folds.{list_any-append}
use Rattle.std.proofs.lemmas.Option.{slice_get-map}
use Rattle.plcx_types.specs.Lists.{Each}
use Rattle.plcx_model.specs.Sound.{variables_of, IsKnown, Nests}
use Rattle.plcx_model.specs.declared.project.ListClass.{ListClass}
use Rattle.plcx_model.specs.declared.project.VarTy.{VarTy}
use Rattle.plcx_model.specs.declared.project.VarTy.TheVariants as var
use Rattle.plcx_model.specs.declared.project.Variable.{Variable}
use Rattle.plcx_model.specs.declared.project.VarList.{VarList}
use Rattle.plcx_model.specs.declared.project.Pou.{Pou}
use Rattle.plcx_draft.specs.declared.draft.DraftVariable.{DraftVariable}
use Rattle.plcx_draft.specs.declared.draft.DraftList.{DraftList}
use Rattle.plcx_draft.specs.declared.draft.DraftPou.{DraftPou}
use Rattle.plcx_profile.specs.declared.sizes.Content.{Content}
use Rattle.plcx_profile.specs.ProjectIn.{type_or, variable_of, list_of, pou_of}
use Rattle.plcx_profile.specs.Sizes.{place_in, block_of, with_variable, with_list, content_of, contents, holds_at, reaches}
use Rattle.plcx_profile.specs.Types.{type_meant}
use Rattle.plcx_sound.proofs.Lists.{all_joined, all_both, all_at}
use Rattle.plcx_sound.proofs.Variables.{or_false, known}

module _ (pous : List DraftPou) where
  abbrev pub Known : DraftVariable → Type 0
  Known v = is_none (type_meant pous v.ty) ≡ false

  abbrev pub KnownPou : DraftPou → Type 0
  KnownPou p = Each (λ (l : DraftList). Each Known l.variables) p.lists

  -- what holds of the variables of a draft holds of those of its project
  settled_variables : (Q : Variable → Type 0) (vs : List DraftVariable) → Each (λ v. Q (variable_of pous v)) vs → Each Q (map (variable_of pous) vs)
  settled_variables Q [] h = tt
  settled_variables Q (v ∷ vs) h = (h.0, settled_variables Q vs h.1)

  pub settled_all : (Q : Variable → Type 0) (lists : List DraftList) → Each (λ (l : DraftList). Each (λ v. Q (variable_of pous v)) l.variables) lists
      → Each Q (flat_map (λ (list : VarList). list.variables) (map (list_of pous) lists))
  unfolding list_of
  settled_all Q [] h = tt
  settled_all Q (l ∷ ls) h = all_joined Q (map (variable_of pous) l.variables) (flat_map (λ (list : VarList). list.variables) (map (list_of pous) ls)) (settled_variables Q l.variables h.0) (settled_all Q ls h.1)

  module _ (test : ℕ → Bool) where
    abbrev Passes : DraftVariable → Type 0
    Passes v = list_any test (option_to_list (block_of pous v)) ≡ false

    record NoneOf (c : Content) (vs : List DraftVariable) : Type 0 where
      before : list_any test c.blocks ≡ false
      all : Each Passes vs

    none_in : (class : ListClass) (c : Content) (vs : List DraftVariable) → list_any test (fold (with_variable pous class) c vs).blocks ≡ false → NoneOf c vs
    none_in class c [] h = record { before = h; all = tt }
    none_in class c (v ∷ vs) h =
        let rest = none_in class (with_variable pous class c v) vs h in
        let both = or_false (list_any test c.blocks) (list_any test (option_to_list (block_of pous v))) (sym (list_any-append test c.blocks (option_to_list (block_of pous v))) ∙ rest.before) in
        record { before = both.0; all = (both.1, rest.all) }

    record NoneIn (c : Content) (lists : List DraftList) : Type 0 where
      before : list_any test c.blocks ≡ false
      all : Each (λ (l : DraftList). Each Passes l.variables) lists

    none_in_lists : (c : Content) (lists : List DraftList) → list_any test (fold (with_list pous) c lists).blocks ≡ false → NoneIn c lists
    none_in_lists c [] h = record { before = h; all = tt }
    none_in_lists c (l ∷ ls) h =
        let rest = none_in_lists (with_list pous c l) ls h in
        let here = none_in l.class c l.variables rest.before in
        record { before = here.before; all = (here.all, rest.all) }

    pub none_of : (p : DraftPou) → list_any test (content_of pous p).blocks ≡ false → Each (λ (l : DraftList). Each Passes l.variables) p.lists
    unfolding content_of
    none_of p h = (none_in_lists _ p.lists h).all

  abbrev pub settled_pous : List Pou
  settled_pous = map (pou_of pous) pous

  abbrev pub Ends : ℕ → Option VarTy → Type 0
  Ends n t = holds_at (reaches (contents pous) n) (option_and_then (slice_get (contents pous)) (place_in t)) ≡ false

  abbrev Below : ℕ → ℕ → Bool
  Below n b = holds_at (reaches (contents pous) n) (slice_get (contents pous) b)

  ends : (n : ℕ) (t : Option VarTy) → list_any (Below n) (option_to_list (place_in t)) ≡ false → Ends n t
  ends n None h = refl
  ends n (Some (var.Plain t)) h = refl
  ends n (Some (var.Std k)) h = refl
  ends n (Some (var.Block place)) h = (or_false (Below n place) false h).0

  at_project : (place : ℕ) (o : Option DraftPou) (q : Pou) → slice_get pous place ≡ o → slice_get settled_pous place ≡ Some q → (p : DraftPou) × (slice_get pous place ≡ Some p) × (pou_of pous p ≡ q)
  at_project place None q is at = absurd (let none : slice_get settled_pous place ≡ None = slice_get-map (pou_of pous) pous place ∙ ap (option_map (pou_of pous)) is in cc)
  at_project place (Some p) q is at = (p, is, (let some : slice_get settled_pous place ≡ Some (pou_of pous p) = slice_get-map (pou_of pous) pous place ∙ ap (option_map (pou_of pous)) is in cc))

  at_contents : (place : ℕ) (p : DraftPou) → slice_get pous place ≡ Some p → slice_get (contents pous) place ≡ Some (content_of pous p)
  at_contents place p is = slice_get-map (content_of pous) pous place ∙ ap (option_map (content_of pous)) is

  at_some : (place : ℕ) (q : Pou) → slice_get settled_pous place ≡ Some q → (p : DraftPou) × (slice_get pous place ≡ Some p) × (pou_of pous p ≡ q)
  at_some place q at = at_project place (slice_get pous place) q refl at

  as_some : (n : ℕ) (t : Option VarTy) → is_none t ≡ false → Ends n t → Ends n (Some (type_or t))
  as_some n None some h = absurd (cc)
  as_some n (Some t) some h = h

  module _ (all_known : Each KnownPou pous) where
    nested : (n : ℕ) → ((t : VarTy) → IsKnown settled_pous t → Ends n (Some t) → Nests settled_pous n t) → (p : DraftPou) → KnownPou p → reaches (contents pous) (suc n) (content_of pous p) ≡ false
        → Each (λ (v : Variable). Nests settled_pous n v.ty) (variables_of (pou_of pous p))
    unfolding pou_of variable_of reaches
    nested n inner p all h =
        settled_all (λ (v : Variable). Nests settled_pous n v.ty) p.lists
        (all_both (λ (l : DraftList). Each Known l.variables) (λ (l : DraftList). Each (Passes (Below n)) l.variables)
        (λ (l : DraftList). Each (λ v. Nests settled_pous n (variable_of pous v).ty) l.variables)
        (λ l k e. all_both Known (Passes (Below n)) (λ v. Nests settled_pous n (variable_of pous v).ty)
        (λ v some none. inner (type_or (type_meant pous v.ty)) (known pous v.ty some) (as_some n (type_meant pous v.ty) some (ends n (type_meant pous v.ty) none))) l.variables k e)
        p.lists all (none_of (Below n) p h))

    nests : (n : ℕ) (t : VarTy) → IsKnown settled_pous t → Ends n (Some t) → Nests settled_pous n t
    unfolding reaches
    nests zero (var.Plain t) k h = tt
    nests zero (var.Std s) k h = tt
    nests zero (var.Block place) k h =
        let found = at_some place k.0 k.1 in
        absurd (let ended = rw (at_contents place found.0 found.1) at h in cc)
    nests (suc n) (var.Plain t) k h = tt
    nests (suc n) (var.Std s) k h = tt
    nests (suc n) (var.Block place) k h = λ q at.
        let found = at_some place q at in
        let ended : reaches (contents pous) (suc n) (content_of pous found.0) ≡ false = rw (at_contents place found.0 found.1) at h in
        let all = nested n (nests n) found.0 (all_at KnownPou pous place found.0 found.1 all_known) ended in
        let Inner : Pou → Type 0 = λ p. Each (λ (v : Variable). Nests settled_pous n v.ty) (variables_of p) in
        (subst Inner found.2 all)

    -- a variable at which no longer chain begins
    pub chain_ends : (n : ℕ) (v : DraftVariable) → Known v → Ends n (type_meant pous v.ty) → Nests settled_pous n (type_or (type_meant pous v.ty))
    chain_ends n v some h = nests n (type_or (type_meant pous v.ty)) (known pous v.ty some) (as_some n (type_meant pous v.ty) some h)
