-- Retained states of leaves that are the same in the meaning.
use Rattle.std.proofs.Common.{◌≡◌, List, [], ◌∷◌, Option, Some, None, sym, ap, ◌∙◌}
use Rattle.std.specs.Prelude.{◌&&◌}
use Rattle.plcx_types.specs.Value.{Value}
use Rattle.plcx_meaning.specs.Base.{is_declared}
use Rattle.plcx_meaning.specs.Layout.{Leaf as Meant}
use Rattle.plcx_state.specs.declared.layout.Leaf.{Leaf}
use Rattle.plcx_state.specs.Layouts.{meant, all_meant}
use Rattle.plcx_state.specs.Retains.{Pairwise, Suits, IsRetainedOf}

-- leaves that are the same in the meaning have the same retained states
suits_same : (a b : Leaf) → meant a ≡ meant b → (v : Option Value) → Suits a v → Suits b v
suits_same a b e None h = sym (ap (λ (m : Meant). m.retained && is_declared m.path) e) ∙ h
suits_same a b e (Some v) h = (sym (ap (λ (m : Meant). m.retained && is_declared m.path) e) ∙ h.0, h.1 ∙ ap (λ (m : Meant). m.ty) e, h.2)

suit_same : (ls ms : List Leaf) → all_meant ls ≡ all_meant ms → (kept : List (Option Value)) → Pairwise Suits ls kept → Pairwise Suits ms kept
suit_same [] [] e [] h = tt
suit_same [] [] e (v ∷ kept) h = absurd h
suit_same [] (b ∷ ms) e kept h = absurd (cc)
suit_same (a ∷ ls) [] e kept h = absurd (cc)
suit_same (a ∷ ls) (b ∷ ms) e [] h = absurd h
suit_same (a ∷ ls) (b ∷ ms) e (v ∷ kept) h =
    let first : meant a ≡ meant b = cc in
    let rest : all_meant ls ≡ all_meant ms = cc in
    (suits_same a b first v h.0, suit_same ls ms rest kept h.1)

pub kept_same : (ls ms : List Leaf) → all_meant ls ≡ all_meant ms → (kept : List (Option Value)) → IsRetainedOf ls kept → IsRetainedOf ms kept
kept_same ls ms e kept h = record { suits = suit_same ls ms e kept h.suits }
