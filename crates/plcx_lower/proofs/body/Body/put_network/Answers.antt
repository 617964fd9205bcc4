use Rattle.std.proofs.Common.{[], ◌∷◌, ◌+◌, get_or, drop, map, subst}
use Rattle.plcx_types.specs.Lists.{Each}
use Rattle.plcx_meaning.specs.Templates.{elements_text}
use Rattle.plcx_st.specs.Meant.{stmt_meant}
use Rattle.plcx_st.specs.InRange.{StatementInRange}
use Rattle.plcx_drawn.specs.Shown.{shown_network}
use Rattle.plcx_lower.proofs.Ranges.{each_parts}
use Rattle.plcx_lower.proofs.Networks.{place_and_rest, some_more}
use Rattle.plcx_lower.proofs.body.Body.put_network.Goals as goal

pub put_place-requires : goal.put_place-requires
put_place-requires c =
    let d = c.args.drawing.now in
    let i = c.loop-place.place-index in
    let place = get_or c.args.places.now i 0 in
    let left = place_and_rest d c.args.places.now i c.loop-place-test.true in
    (each_parts StatementInRange (elements_text (shown_network d (place ∷ []))) (elements_text (shown_network d (drop (i + 1) c.args.places.now)))
    (subst (Each StatementInRange) left c.loop-place.invariant.0)).0

pub loop-place-preserved : goal.loop-place-preserved
loop-place-preserved c =
    let d = c.args.drawing.now in
    let i = c.loop-place.place-index in
    let more = elements_text (shown_network d (get_or c.args.places.now i 0 ∷ [])) in
    let rest = elements_text (shown_network d (drop (i + 1) c.args.places.now)) in
    let left = place_and_rest d c.args.places.now i c.loop-place-test.true in (
      (each_parts StatementInRange more rest (subst (Each StatementInRange) left c.loop-place.invariant.0)).1,
      some_more (map stmt_meant c.loop-place.self.statements.items) (map stmt_meant c.put_place.new.self.statements.items) _ _ more rest left c.loop-place.invariant.1 c.in_ok-put_place.ensures,
    )
