-- A draft that is in form and breaks no rule on what it declares is settled as a sound project.
use Rattle.std.proofs.Common.{◌≡◌, ◌+◌, ◌≤◌, true, false, not, List, [], ◌∷◌, length, map, None, is_none, refl, sym, ap, ◌∙◌, arith}
use Rattle.std.specs.List.{flat_map}
use Rattle.std.proofs.lemmas.List.{length-append, length-map}
use Rattle.std.proofs.lemmas.List.Sums.{sum_by-cons}
use Rattle.plcx_types.specs.Lists.{Each}
use Rattle.plcx_types.specs.Limits.{max_pous, max_instance_chain}
use Rattle.plcx_model.specs.Verdict.{Never, Kept, Next}
use Rattle.plcx_model.specs.Sound.{Sound, PouIsSound, ListIsSound, VariableIsSound}
use Rattle.plcx_model.specs.declared.project.PouKind.{PouKind}
use Rattle.plcx_model.specs.declared.project.VarList.{VarList}
use Rattle.plcx_draft.specs.declared.draft.DraftVariable.{DraftVariable}
use Rattle.plcx_draft.specs.declared.draft.DraftList.{DraftList}
use Rattle.plcx_draft.specs.declared.draft.DraftPou.{DraftPou}
use Rattle.plcx_draft.specs.declared.draft.Draft.{Draft}
use Rattle.plcx_profile.specs.declared.judging.DeclarationRule.TheVariants as rule
use Rattle.plcx_profile.specs.declared.doubling.Once.TheVariants.{PouNames, VariableNames, Addresses}
use Rattle.plcx_profile.specs.Declarations.{Declared, OfPou, OfVariable, in_list, in_pou, declared_in, name_of}
use Rattle.plcx_profile.specs.Names.{is_bad_name, doubles}
use Rattle.plcx_profile.specs.Types.{type_meant, may_hold, breaks_type, breaks_initial, is_bad_initial, breaks_in_out}
use Rattle.plcx_profile.specs.Sizes.{breaks_chain, breaks_size}
use Rattle.plcx_profile.specs.Judged.{breaks, DeclarationVerdict}
use Rattle.plcx_profile.specs.ProjectIn.{variable_of, list_of, pou_of, settled}
use Rattle.plcx_sound.proofs.Lists.{unbroken, all_flat, all_mapped, all_both, all_map, never_flat}
use Rattle.plcx_sound.proofs.Formed.{HasAddress, FormedList, FormedPou, declared_variables}
use Rattle.plcx_sound.proofs.Keys.{distinct_variables, distinct_pous, distinct_addresses}
use Rattle.plcx_sound.proofs.Variables.{or_false, not_false, declarable, known, held, suits, bare}
use Rattle.plcx_sound.proofs.Chains.{Known, KnownPou, settled_pous, chain_ends}
use Rattle.plcx_sound.proofs.Sizes.{small}

-- what a declaration breaks none of
record Keeps (pous : List DraftPou) (x : Declared) : Type 0 where
  name : is_bad_name (name_of x) ≡ false
  type : breaks_type pous [] x ≡ false
  initial : breaks_initial [] x ≡ false
  chain : breaks_chain pous [] x ≡ false
  size : breaks_size pous [] x ≡ false

record Judged (pous : List DraftPou) (xs : List Declared) : Type 0 where
  keep : Each (Keeps pous) xs
  pou_names : Never (λ b x. doubles PouNames b x ≡ true) [] xs
  variable_names : Never (λ b x. doubles VariableNames b x ≡ true) [] xs
  addresses : Never (λ b x. doubles Addresses b x ≡ true) [] xs

judged : (draft : Draft) → DeclarationVerdict draft None → Judged draft.pous (declared_in draft)
unfolding breaks
judged draft (Next names (Next pou_names (Next variable_names (Next types (Next initials (Next chains (Next sizes (Next addresses Kept)))))))) =
    let xs = declared_in draft in
    let pous = draft.pous in
    let n = unbroken (breaks pous rule.Names) (λ x. is_bad_name (name_of x)) (λ b x. refl) [] xs names in
    let t = unbroken (breaks pous rule.Types) (breaks_type pous []) (λ b x. same_type pous b x) [] xs types in
    let i = unbroken (breaks pous rule.Initials) (breaks_initial []) (λ b x. same_initial b x) [] xs initials in
    let c = unbroken (breaks pous rule.Chains) (breaks_chain pous []) (λ b x. same_chain pous b x) [] xs chains in
    let s = unbroken (breaks pous rule.Sizes) (breaks_size pous []) (λ b x. same_size pous b x) [] xs sizes in
    let N : Declared → Type 0 = λ x. is_bad_name (name_of x) ≡ false in
    let T : Declared → Type 0 = λ x. breaks_type pous [] x ≡ false in
    let I : Declared → Type 0 = λ x. breaks_initial [] x ≡ false in
    let C : Declared → Type 0 = λ x. breaks_chain pous [] x ≡ false in
    let S : Declared → Type 0 = λ x. breaks_size pous [] x ≡ false in
    let nt = all_both N T (λ x. N x × T x) (λ x p q. (p, q)) xs n t in
    let ic = all_both I C (λ x. I x × C x) (λ x p q. (p, q)) xs i c in
    let ics = all_both (λ x. I x × C x) S (λ x. I x × C x × S x) (λ x p q. (p.0, p.1, q)) xs ic s in
    record {
      keep = all_both (λ x. N x × T x) (λ x. I x × C x × S x) (Keeps pous) (λ x p q. record { name = p.0; type = p.1; initial = q.0; chain = q.1; size = q.2 }) xs nt ics;
      pou_names = pou_names;
      variable_names = variable_names;
      addresses = addresses;
    }
  where
    same_type : (pous : List DraftPou) (b : List Declared) (x : Declared) → breaks_type pous b x ≡ breaks_type pous [] x
    same_type pous b (OfPou p) = refl
    same_type pous b (OfVariable list v) = refl

    same_initial : (b : List Declared) (x : Declared) → breaks_initial b x ≡ breaks_initial [] x
    same_initial b (OfPou p) = refl
    same_initial b (OfVariable list v) = refl

    same_chain : (pous : List DraftPou) (b : List Declared) (x : Declared) → breaks_chain pous b x ≡ breaks_chain pous [] x
    same_chain pous b (OfPou p) = refl
    same_chain pous b (OfVariable list v) = refl

    same_size : (pous : List DraftPou) (b : List Declared) (x : Declared) → breaks_size pous b x ≡ breaks_size pous [] x
    same_size pous b (OfPou p) = refl
    same_size pous b (OfVariable list v) = refl

module _ (pous : List DraftPou) where
  abbrev KeepsVariable : DraftList → DraftVariable → Type 0
  KeepsVariable l v = Keeps pous (OfVariable l v)

  record KeepsPou (p : DraftPou) : Type 0 where
    own : Keeps pous (OfPou p)
    lists : Each (λ (l : DraftList). Each (KeepsVariable l) l.variables) p.lists

  keeps_pou : (p : DraftPou) → Each (Keeps pous) (in_pou p) → KeepsPou p
  keeps_pou p h = record {
    own = h.0;
    lists = all_map (λ (l : DraftList). Each (Keeps pous) (in_list l)) (λ (l : DraftList). Each (KeepsVariable l) l.variables)
        (λ l k. all_mapped (Keeps pous) (λ (v : DraftVariable). OfVariable l v) l.variables k) p.lists (all_flat (Keeps pous) in_list p.lists h.1);
  }

  type_known : (l : DraftList) (v : DraftVariable) → KeepsVariable l v → Known pous v
  type_known l v k = (or_false (is_none (type_meant pous v.ty)) (not (may_hold l v.ty)) k.type).0

  known_pou : (p : DraftPou) → KeepsPou p → KnownPou pous p
  known_pou p k = all_map (λ (l : DraftList). Each (KeepsVariable l) l.variables) (λ (l : DraftList). Each (Known pous) l.variables)
      (λ l h. all_map (KeepsVariable l) (Known pous) (type_known l) l.variables h) p.lists k.lists

  module _ (all_known : Each (KnownPou pous) pous) where
    variable_sound : (l : DraftList) (v : DraftVariable) → HasAddress v → KeepsVariable l v → VariableIsSound (settled_pous pous) (list_of pous l) (variable_of pous v)
    unfolding variable_of list_of
    variable_sound l v address k =
        let type = or_false (is_none (type_meant pous v.ty)) (not (may_hold l v.ty)) k.type in
        let initial = or_false (is_bad_initial v.ty v.initial) (breaks_in_out l.class v) k.initial in
        record {
          name = declarable v.name k.name;
          known = known pous v.ty type.0;
          instance = held pous l v.ty (not_false (may_hold l v.ty) type.1);
          initial = suits pous v.ty v.initial;
          address = address;
          nests = chain_ends pous all_known max_instance_chain v type.0 k.chain;
          in_out = bare l v initial.1;
        }

    all_settled : (l : DraftList) (vs : List DraftVariable) → Each HasAddress vs → Each (KeepsVariable l) vs → Each (VariableIsSound (settled_pous pous) (list_of pous l)) (map (variable_of pous) vs)
    all_settled l [] a k = tt
    all_settled l (v ∷ vs) a k = (variable_sound l v a.0 k.0, all_settled l vs a.1 k.1)

    list_sound : (kind : PouKind) (l : DraftList) → FormedList kind l → Each (KeepsVariable l) l.variables → ListIsSound (settled_pous pous) kind (list_of pous l)
    unfolding list_of
    list_sound kind l f k = record {
      variables = (all_settled l l.variables f.addresses k);
      marks = f.marks;
      in_out_marks = f.in_out_marks;
      in_outs = λ class program. ap (map (variable_of pous)) (f.in_outs class program);
    }

    lists_sound : (kind : PouKind) (ls : List DraftList) → Each (FormedList kind) ls → Each (λ (l : DraftList). Each (KeepsVariable l) l.variables) ls → Each (ListIsSound (settled_pous pous) kind) (map (list_of pous) ls)
    lists_sound kind [] f k = tt
    lists_sound kind (l ∷ ls) f k = (list_sound kind l f.0 k.0, lists_sound kind ls f.1 k.1)

    count_settled : (ls : List DraftList) → length (flat_map (λ (list : VarList). list.variables) (map (list_of pous) ls)) ≡ declared_variables ls
    unfolding list_of
    count_settled [] = refl
    count_settled (l ∷ ls) =
        length-append (map (variable_of pous) l.variables) (flat_map (λ (list : VarList). list.variables) (map (list_of pous) ls))
        ∙ ap (λ n. n + length (flat_map (λ (list : VarList). list.variables) (map (list_of pous) ls))) (length-map l.variables (variable_of pous))
        ∙ ap (λ n. length l.variables + n) (count_settled ls)
        ∙ sym (sum_by-cons (λ (k : DraftList). length k.variables) l ls)

    pou_sound : (p : DraftPou) → FormedPou p → KeepsPou p → (b : List Declared) × Never (λ c x. doubles VariableNames c x ≡ true) b (in_pou p) → PouIsSound (settled_pous pous) (pou_of pous p)
    unfolding pou_of
    pou_sound p f k once =
        let size = small pous all_known p (known_pou p k) k.own.size in
        record {
          name = declarable p.name k.own.name;
          lists = (lists_sound p.kind p.lists f.lists k.lists);
          names = distinct_variables pous once.0 p once.1;
          variables = (let few = f.variables in omega (arith, few, count_settled p.lists));
          body = f.body;
          leaves = size.leaves;
          parts = size.parts;
        }

    pous_sound : (ps : List DraftPou) → Each FormedPou ps → Each KeepsPou ps → Each (λ p. (b : List Declared) × Never (λ c x. doubles VariableNames c x ≡ true) b (in_pou p)) ps
        → Each (PouIsSound (settled_pous pous)) (map (pou_of pous) ps)
    pous_sound [] f k once = tt
    pous_sound (p ∷ ps) f k once = (pou_sound p f.0 k.0 once.0, pous_sound ps f.1 k.1 once.1)

pub sound_draft : (draft : Draft) → Each FormedPou draft.pous → length draft.pous ≤ max_pous → DeclarationVerdict draft None → Sound (settled draft)
unfolding settled declared_in
sound_draft draft formed few verdict =
    let pous = draft.pous in
    let all = judged draft verdict in
    let keep = all_map (λ p. Each (Keeps pous) (in_pou p)) (KeepsPou pous) (keeps_pou pous) pous (all_flat (Keeps pous) in_pou pous all.keep) in
    let known = all_map (KeepsPou pous) (KnownPou pous) (known_pou pous) pous keep in
    let once = never_flat (λ c x. doubles VariableNames c x ≡ true) in_pou [] pous all.variable_names in
    record {
      few = omega (arith, few, length-map pous (pou_of pous));
      names = distinct_pous pous pous all.pou_names;
      pous = (pous_sound pous known pous formed keep once);
      addresses = distinct_addresses pous pous all.addresses;
    }
