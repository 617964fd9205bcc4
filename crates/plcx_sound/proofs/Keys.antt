-- What of a file's declarations may stand once is that of its project.
use Rattle.std.proofs.Common.{◌≡◌, ℕ, true, List, [], ◌∷◌, ◌++◌, map, filter_map, Option, Some, None, refl, sym, ap, subst, ◌∙◌}
use Rattle.std.specs.List.{flat_map, AllPairs}
use Rattle.std.proofs.lemmas.List.Elements.{filter_map-append}
use Rattle.plcx_types.specs.Name.{in_lower_case}
use Rattle.plcx_model.specs.Verdict.{Never}
use Rattle.plcx_model.specs.Sound.{variables_of, addresses_of}
use Rattle.plcx_model.specs.declared.project.Variable.{Variable}
use Rattle.plcx_model.specs.declared.project.VarList.{VarList}
use Rattle.plcx_model.specs.declared.project.Pou.{Pou}
use Rattle.plcx_draft.specs.declared.draft.DraftVariable.{DraftVariable}
use Rattle.plcx_draft.specs.declared.draft.DraftList.{DraftList}
use Rattle.plcx_draft.specs.declared.draft.DraftPou.{DraftPou}
use Rattle.plcx_profile.specs.declared.doubling.Once.TheVariants.{PouNames, VariableNames, Addresses}
use Rattle.plcx_profile.specs.Declarations.{Declared, OfPou, OfVariable, in_list, in_pou}
use Rattle.plcx_profile.specs.Names.{key_of, doubles}
use Rattle.plcx_profile.specs.ProjectIn.{variable_of, list_of, pou_of}
use Rattle.plcx_sound.proofs.Lists.{all_of, flat_all, map_all}
use Rattle.plcx_sound.proofs.Distinct.{Differ, Goes, distinct}

module _ (pous : List DraftPou) where
  abbrev settled_lists : List DraftList → List VarList
  settled_lists lists = map (list_of pous) lists

  abbrev in_lists : List VarList → List Variable
  in_lists lists = flat_map (λ (list : VarList). list.variables) lists

  -- keys that are told of the variables of a project
  module _ (key : Declared → Option (List ℕ)) (told : Variable → Option (List ℕ)) (same : (list : DraftList) (v : DraftVariable) → key (OfVariable list v) ≡ told (variable_of pous v)) where
    list_keys : (list : DraftList) (vs : List DraftVariable) → filter_map key (map (λ (v : DraftVariable). OfVariable list v) vs) ≡ filter_map told (map (variable_of pous) vs)
    list_keys list [] = refl
    list_keys list (v ∷ vs) = rw (same list v, list_keys list vs) refl

    pub lists_keys : (lists : List DraftList) → filter_map key (flat_map in_list lists) ≡ filter_map told (in_lists (settled_lists lists))
    unfolding list_of
    lists_keys [] = refl
    lists_keys (l ∷ ls) =
        filter_map-append key (in_list l) (flat_map in_list ls)
        ∙ ap (λ ks. ks ++ filter_map key (flat_map in_list ls)) (list_keys l l.variables)
        ∙ ap (λ ks. filter_map told (map (variable_of pous) l.variables) ++ ks) (lists_keys ls)
        ∙ sym (filter_map-append told (map (variable_of pous) l.variables) (in_lists (settled_lists ls)))

  told_all : (f : Variable → List ℕ) (vs : List Variable) → filter_map (λ v. Some (f v)) vs ≡ map f vs
  told_all f [] = refl
  told_all f (v ∷ vs) = ap (λ ks. f v ∷ ks) (told_all f vs)

  told_none : (vs : List Variable) → filter_map {Y = List ℕ} (λ v. None) vs ≡ []
  told_none [] = refl
  told_none (v ∷ vs) = told_none vs

  abbrev name_key : Variable → List ℕ
  name_key v = in_lower_case v.name

  same_name : (list : DraftList) (v : DraftVariable) → key_of VariableNames (OfVariable list v) ≡ Some (name_key (variable_of pous v))
  unfolding variable_of
  same_name list v = refl

  -- the names of a POU's variables
  names_are : (p : DraftPou) → filter_map (key_of VariableNames) (flat_map in_list p.lists) ≡ map name_key (variables_of (pou_of pous p))
  unfolding pou_of
  names_are p = lists_keys (key_of VariableNames) (λ v. Some (name_key v)) same_name p.lists ∙ told_all name_key (in_lists (settled_lists p.lists))

  pub distinct_variables : (before : List Declared) (p : DraftPou) → Never (λ b x. doubles VariableNames b x ≡ true) before (in_pou p) → AllPairs Differ (map name_key (variables_of (pou_of pous p)))
  distinct_variables before p never =
      subst (AllPairs Differ) (names_are p)
      (distinct VariableNames (OfPou p ∷ before) (flat_map in_list p.lists) (flat_all (Goes VariableNames) in_list (λ l. map_all (Goes VariableNames) (λ (v : DraftVariable). OfVariable l v) (λ v. refl) l.variables) p.lists) never.1)

  -- the names of POUs
  abbrev pou_key : Pou → List ℕ
  pou_key p = in_lower_case p.name

  pous_are : (ps : List DraftPou) → filter_map (key_of PouNames) (flat_map in_pou ps) ≡ map pou_key (map (pou_of pous) ps)
  unfolding pou_of
  pous_are [] = refl
  pous_are (p ∷ ps) =
      filter_map-append (key_of PouNames) (in_pou p) (flat_map in_pou ps)
      ∙ ap (λ ks. in_lower_case p.name ∷ (ks ++ filter_map (key_of PouNames) (flat_map in_pou ps))) (lists_keys (key_of PouNames) (λ v. None) (λ list v. refl) p.lists ∙ told_none (in_lists (settled_lists p.lists)))
      ∙ ap (λ ks. in_lower_case p.name ∷ ks) (pous_are ps)

  pub distinct_pous : (ps : List DraftPou) → Never (λ b x. doubles PouNames b x ≡ true) [] (flat_map in_pou ps) → AllPairs Differ (map pou_key (map (pou_of pous) ps))
  distinct_pous ps never = subst (AllPairs Differ) (pous_are ps) (distinct PouNames [] (flat_map in_pou ps) (all_of (Goes PouNames) (λ x. refl) (flat_map in_pou ps)) never)

  -- addresses
  same_address : (list : DraftList) (v : DraftVariable) → key_of Addresses (OfVariable list v) ≡ (variable_of pous v).address
  unfolding variable_of
  same_address list v = refl

  addresses_are : (ps : List DraftPou) → filter_map (key_of Addresses) (flat_map in_pou ps) ≡ addresses_of (map (pou_of pous) ps)
  unfolding pou_of
  addresses_are [] = refl
  addresses_are (p ∷ ps) =
      let told : Variable → Option (List ℕ) = λ v. v.address in
      filter_map-append (key_of Addresses) (in_pou p) (flat_map in_pou ps)
      ∙ ap (λ ks. ks ++ filter_map (key_of Addresses) (flat_map in_pou ps)) (lists_keys (key_of Addresses) told same_address p.lists)
      ∙ ap (λ ks. filter_map told (in_lists (settled_lists p.lists)) ++ ks) (addresses_are ps)
      ∙ sym (filter_map-append told (in_lists (settled_lists p.lists)) (flat_map variables_of (map (pou_of pous) ps)))

  pub distinct_addresses : (ps : List DraftPou) → Never (λ b x. doubles Addresses b x ≡ true) [] (flat_map in_pou ps) → AllPairs Differ (addresses_of (map (pou_of pous) ps))
  distinct_addresses ps never = subst (AllPairs Differ) (addresses_are ps) (distinct Addresses [] (flat_map in_pou ps) (all_of (Goes Addresses) (λ x. refl) (flat_map in_pou ps)) never)
