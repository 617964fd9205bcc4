-- No chain of instances is too long exactly where no variable starts one of 17.
use Rattle.std.proofs.Common.{◌≡◌, ℕ, zero, suc, true, false, ◌||◌, List, Option, Some, None, refl, sym, ap, ◌∙◌, if◌then◌else◌}
use Rattle.std.specs.Prelude.{is_some}
use Rattle.std.specs.List.{list_any}
use Rattle.plcx_types.specs.Lists.{Each}
use Rattle.plcx_types.specs.TypeName.{type_named}
use Rattle.plcx_std.specs.Kind.{kind_named}
use Rattle.plcx_meaning.specs.Base.{are_distinct}
use Rattle.plcx_meaning.specs.Tree.{PouText}
use Rattle.plcx_meaning.specs.Layout.{Variable, variables_of}
use Rattle.plcx_meaning.specs.Ready as ready
use Rattle.plcx_meaning.specs.Ready.{TextNests}
use Rattle.plcx_meaning.proofs.Lists.{each_weaker}
use Rattle.plcx_conditions.specs.Declarations.{user_block, starts_chain}
use Rattle.plcx_conditions.proofs.Basics.{none_pass, any_each}
use Rattle.plcx_conditions.proofs.Worlds.{pou_names, block_is}

-- no variable of these starts a chain of so many and one
abbrev pub NoneStarts : ℕ → List PouText → List Variable → Type 0
NoneStarts n unit vs = Each (λ (v : Variable). starts_chain n unit v ≡ false) vs

none_of : {A : Type 0} (o : Option A) → is_some o ≡ false → o ≡ None
none_of None h = refl
none_of (Some x) h = absurd (cc)

module _ (unit : List PouText) (apart : are_distinct (pou_names unit) ≡ true) where
  user_is : (v : Variable) → user_block unit v ≡ ready.user_block unit v
  user_is v = ap (λ o. if is_some (type_named v.ty) || is_some (kind_named v.ty) then None else o) (block_is v.ty unit apart)

  longer : (n : ℕ) (v : Variable) (p : PouText) → user_block unit v ≡ Some p → starts_chain (suc n) unit v ≡ list_any (starts_chain n unit) (variables_of p.blocks)
  longer n v p h = ap (λ (o : Option PouText). elim o [ None ↦ false | Some q ↦ list_any (starts_chain n unit) (variables_of q.blocks) ]) h

  ends : (n : ℕ) (v : Variable) (o : Option PouText) → user_block unit v ≡ o → ((p : PouText) → o ≡ Some p → NoneStarts n unit (variables_of p.blocks)) → starts_chain (suc n) unit v ≡ false
  ends n v None e h = ap (λ (o : Option PouText). elim o [ None ↦ false | Some q ↦ list_any (starts_chain n unit) (variables_of q.blocks) ]) e
  ends n v (Some p) e h = longer n v p e ∙ none_pass (starts_chain n unit) (variables_of p.blocks) (h p refl)

  pub nests_none : (n : ℕ) (p : PouText) → TextNests n unit p → NoneStarts n unit (variables_of p.blocks)
  nests_none zero p h = each_weaker (λ (v : Variable). ready.user_block unit v ≡ None) _ (variables_of p.blocks) (λ v e. ap is_some (user_is v ∙ e)) h
  nests_none (suc n) p h =
      each_weaker (λ (v : Variable). (q : PouText) → ready.user_block unit v ≡ Some q → TextNests n unit q) _ (variables_of p.blocks)
      (λ v below. ends n v (user_block unit v) refl (λ q e. nests_none n q (below q (sym (user_is v) ∙ e)))) h

  pub none_nests : (n : ℕ) (p : PouText) → NoneStarts n unit (variables_of p.blocks) → TextNests n unit p
  none_nests zero p h = each_weaker (λ (v : Variable). starts_chain zero unit v ≡ false) _ (variables_of p.blocks) (λ v e. sym (user_is v) ∙ none_of (user_block unit v) e) h
  none_nests (suc n) p h =
      each_weaker (λ (v : Variable). starts_chain (suc n) unit v ≡ false) _ (variables_of p.blocks)
      (λ v e q user. none_nests n q (any_each (starts_chain n unit) (variables_of q.blocks) (sym (longer n v q (user_is v ∙ user)) ∙ e))) h
