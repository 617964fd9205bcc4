use Rattle.std.proofs.Common.{◌+◌, ◌++◌, ◌∷◌, [], sym, ◌∙◌, ap, subst, arith}
use Rattle.plcx_model.specs.Shown.{graph_of}
use Rattle.plcx_order.specs.declared.rank.Place.{Place}
use Rattle.plcx_order.specs.Ranks.{place_of}
use Rattle.plcx_order.specs.Classes.{AreStandings}
use Rattle.plcx_order.proofs.LinkSteps.{standings_more}
use Rattle.plcx_order.proofs.standing.standings.Goals as goal

pub loop-v-preserved : goal.loop-v-preserved
loop-v-preserved c =
    let g = graph_of c.args.wires.now in
    let v = c.loop-v.v in
    let all = c.loop-v.all.items in
    let place = c.place_of.ensures ∙ ap place_of c.key.ensures in
    let pushed = c.in_ok-push.ensures.items ∙ ap (λ (p : Place). all ++ record { place = p; element = v } ∷ []) place in
    subst (AreStandings g (v + 1)) (sym pushed) (standings_more g v all (omega (arith, c.loop-v-test.true, c.elements-v-end.ensures)) c.loop-v.invariant)
