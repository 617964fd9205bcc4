use Rattle.std.proofs.Common.{◌+◌, ◌++◌, ◌∷◌, [], List, map, take, sym, subst}
use Rattle.std.specs.List.{AllZip}
use Rattle.plcx_meaning.specs.Diagram.{Pou}
use Rattle.plcx_drawn.specs.Pous.{shown_pou}
use Rattle.plcx_tables.specs.Owned.{IsOwn}
use Rattle.plcx_tables.proofs.Walks.{made, pairs_push}
use Rattle.plcx_tables.proofs.own.owns.Goals as goal

pub loop-drawing-preserved : goal.loop-drawing-preserved
loop-drawing-preserved c =
    let pous = c.args.pous.now in
    let ds = c.args.drawings.now in
    let project = map (shown_pou pous) ds in
    let d = c.drawing-item.result in
    let own = c.in_ok-own_of.field-0 in
    let i = c.loop-drawing.drawing-index in
    let pushed = pairs_push (IsOwn project) (map (shown_pou pous) (take i ds)) c.loop-drawing.owns.items (shown_pou pous d) own c.loop-drawing.invariant (c.in_ok-own_of.ensures project (c.in_ok-named.ensures pous)) in
    let widened = subst (λ (ps : List Pou). AllZip (IsOwn project) ps (c.loop-drawing.owns.items ++ own ∷ [])) (sym (made (shown_pou pous) ds i d c.loop-drawing-test.true c.drawing-item.is)) pushed in
    subst (AllZip (IsOwn project) (map (shown_pou pous) (take (i + 1) ds))) (sym c.in_ok-push.ensures.items) widened
