-- What is left of a side and of a watch that were lent to one who listens.
use Rattle.std.proofs.Common.{◌≡◌, List, sym, subst}
use Rattle.std.specs.List.{fold}
use Rattle.plcx_meaning.specs.Evaluate.{Heard}
use Rattle.plcx_eval.specs.declared.side.DiagramSide.{DiagramSide}

-- what holds of what was lent holds of the side that it was lent from, and of the watch, which has become what came back
pub lent : {M : Type 0} (tell : M → Heard → M) (P : DiagramSide → (List Heard → Type 0) → Type 0) (borrowed side : DiagramSide) (was before became behind : M) → borrowed ≡ side → was ≡ before → behind ≡ became
    → P borrowed (λ heard. became ≡ fold tell was heard) → P side (λ heard. behind ≡ fold tell before heard)
lent tell P borrowed side was before became behind lends begins ends holds =
    subst (λ (s : DiagramSide). P s (λ heard. behind ≡ fold tell before heard)) lends
    (subst (λ m. P borrowed (λ heard. behind ≡ fold tell m heard)) begins
    (subst (λ m. P borrowed (λ heard. m ≡ fold tell was heard)) (sym ends) holds))
