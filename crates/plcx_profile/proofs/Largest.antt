-- The first POU that is too large.
use Rattle.std.proofs.Common.{◌≡◌, ℕ, suc, zero, ◌+◌, Bool, true, false, cond, List, [], ◌∷◌, ◌++◌, map, Option, Some, None, option_map, slice_get, append_assoc, refl, sym, ap, ◌∙◌, arith}
use Rattle.std.specs.List.{find, flat_map}
use Rattle.plcx_types.specs.Limits.{max_instance_chain}
use Rattle.plcx_model.specs.Verdict.{first_breaking}
use Rattle.plcx_model.proofs.Judging.{as-find}
use Rattle.plcx_draft.specs.declared.draft.DraftVariable.{DraftVariable}
use Rattle.plcx_draft.specs.declared.draft.DraftList.{DraftList}
use Rattle.plcx_draft.specs.declared.draft.DraftPou.{DraftPou}
use Rattle.plcx_profile.specs.declared.sizes.Size.{Size}
use Rattle.plcx_profile.specs.declared.sizes.Size.TheVariants.{Leaves, Parts}
use Rattle.plcx_profile.specs.Declarations.{Declared, OfPou, OfVariable, in_list, in_pou, start_of}
use Rattle.plcx_profile.specs.Rounds.{count_or, first_above}
use Rattle.plcx_profile.specs.Sizes.{content_of, contents, total, is_too_large, breaks_size}

module _ (all : List DraftPou) where
  abbrev test : Declared → Bool
  test x = breaks_size all [] x

  abbrev is_large : DraftPou → Bool
  is_large p = is_too_large (contents all) (content_of all p)

  past_list : (list : DraftList) (vs : List DraftVariable) (rest : List Declared) → find test (map (λ (v : DraftVariable). OfVariable list v) vs ++ rest) ≡ find test rest
  past_list list [] rest = refl
  past_list list (v ∷ vs) rest = past_list list vs rest

  past_lists : (lists : List DraftList) (rest : List Declared) → find test (flat_map in_list lists ++ rest) ≡ find test rest
  past_lists [] rest = refl
  past_lists (l ∷ ls) rest = ap (find test) (append_assoc (in_list l) (flat_map in_list ls) rest) ∙ past_list l l.variables (flat_map in_list ls ++ rest) ∙ past_lists ls rest

  either : (b : Bool) (p : DraftPou) (o : Option Declared) (q : Option DraftPou) → o ≡ option_map OfPou q → cond b (Some (OfPou p)) o ≡ option_map OfPou (cond b (Some p) q)
  either true p o q h = refl
  either false p o q h = h

  find_pou : (ps : List DraftPou) → find test (flat_map in_pou ps) ≡ option_map OfPou (find is_large ps)
  find_pou [] = refl
  find_pou (p ∷ ps) = either (is_large p) p _ (find is_large ps) (past_lists p.lists (flat_map in_pou ps) ∙ find_pou ps)

  start_at : (o : Option DraftPou) → option_map start_of (option_map OfPou o) ≡ option_map (λ (p : DraftPou). p.start) o
  start_at None = refl
  start_at (Some p) = refl

  get_twice : (size : Size) (n : ℕ) (ps : List DraftPou) (i : ℕ) → count_or (slice_get (map (total (contents all) size n) (map (content_of all) ps)) i) ≡ count_or (option_map (λ (p : DraftPou). total (contents all) size n (content_of all p)) (slice_get ps i))
  get_twice size n [] i = refl
  get_twice size n (p ∷ ps) zero = refl
  get_twice size n (p ∷ ps) (suc i) = get_twice size n ps i

  count_here : (size : Size) (n i : ℕ) (p : DraftPou) → slice_get all i ≡ Some p → count_or (slice_get (map (total (contents all) size n) (contents all)) i) ≡ total (contents all) size n (content_of all p)
  count_here size n i p is = get_twice size n all i ∙ ap (λ (o : Option DraftPou). count_or (option_map (λ (q : DraftPou). total (contents all) size n (content_of all q)) o)) is

  place_or : (b : Bool) (p : DraftPou) (o : Option ℕ) (q : Option DraftPou) → o ≡ option_map (λ (r : DraftPou). r.start) q → cond b (Some p.start) o ≡ option_map (λ (r : DraftPou). r.start) (cond b (Some p) q)
  place_or true p o q h = refl
  place_or false p o q h = h

  above_from : (i : ℕ) (ps : List DraftPou) → ((k : ℕ) → slice_get all (i + k) ≡ slice_get ps k)
      → first_above (map (total (contents all) Leaves (max_instance_chain + 1)) (contents all)) (map (total (contents all) Parts (max_instance_chain + 1)) (contents all)) i ps ≡ option_map (λ (p : DraftPou). p.start) (find is_large ps)
  above_from i [] rest = refl
  above_from i (p ∷ ps) rest =
      let none : i + 0 ≡ i = omega arith in
      let here : slice_get all i ≡ Some p = ap (slice_get all) (sym none) ∙ rest 0 in
      rw (count_here Leaves (max_instance_chain + 1) i p here, count_here Parts (max_instance_chain + 1) i p here)
      (place_or (is_large p) p _ (find is_large ps) (above_from (i + 1) ps (λ k. let next : i + 1 + k ≡ i + suc k = omega arith in ap (slice_get all) next ∙ rest (suc k))))

  pub above_is : first_above (map (total (contents all) Leaves (max_instance_chain + 1)) (contents all)) (map (total (contents all) Parts (max_instance_chain + 1)) (contents all)) 0 all ≡ option_map start_of (first_breaking (breaks_size all) [] (flat_map in_pou all))
  above_is =
      above_from 0 all (λ k. let same : 0 + k ≡ k = omega arith in ap (slice_get all) same)
      ∙ sym (start_at (find is_large all))
      ∙ ap (option_map start_of) (sym (find_pou all) ∙ sym (as-find test [] (flat_map in_pou all)))
