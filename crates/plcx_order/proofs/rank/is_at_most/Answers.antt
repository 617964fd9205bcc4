use Rattle.std.proofs.Common.{◌≡◌, sym, ◌∙◌, ap}
use Rattle.std.specs.Ordering.{is_le}
use Rattle.plcx_model.specs.Keys.{key_cmp}
use Rattle.plcx_order.specs.Ranks.{rank_of, ranks_cmp}
use Rattle.plcx_order.proofs.RankOrder.{compare_alike, le_or_gt}
use Rattle.plcx_order.proofs.rank.is_at_most.Goals as goal

pub returns : goal.returns
returns c =
    let a = c.args.a in
    let b = c.args.b in
    let compared : c.cmp.result ≡ key_cmp a b = c.cmp.ensures ∙ (ap (λ r. ranks_cmp r c.rank_of-2.result) c.rank_of.ensures ∙ (ap (ranks_cmp (rank_of a)) c.rank_of-2.ensures ∙ compare_alike a b)) in
    let e : c.is_le.result ≡ is_le (key_cmp a b) = c.is_le.ensures ∙ ap is_le compared in
    (λ h. (le_or_gt (key_cmp a b)).0 (sym e ∙ h), λ h. e ∙ (le_or_gt (key_cmp a b)).1 h)
