use Rattle.std.proofs.Common.{◌≡◌, ℕ, suc, ◌+◌, List, map, ap, sym, ◌∙◌, arith}
use Rattle.std.specs.List.{sum_by}
use Rattle.plcx_known.specs.Owned.{Typed}
use Rattle.plcx_known.specs.Sizes.{capped, weight, sizes}
use Rattle.plcx_known.proofs.LevelSizes.{next_capped}
use Rattle.plcx_known.proofs.sizes.sizes.Goals as goal

pub loop-depth-preserved : goal.loop-depth-preserved
loop-depth-preserved c =
    let d : ℕ = c.loop-depth.depth in
    let next : d + 1 ≡ suc d = omega arith in
    c.in_ok-all-2.ensures
    ∙ ap (λ (ls : List ℕ). map (λ (ts : List Typed). capped (sum_by (weight d ls) ts)) c.args.owners.now) (c.deref.ensures.value ∙ c.loop-depth.invariant)
    ∙ next_capped d (sizes d c.args.owners.now) c.args.owners.now
    ∙ ap (λ (n : ℕ). map capped (sizes n c.args.owners.now)) (sym next)
