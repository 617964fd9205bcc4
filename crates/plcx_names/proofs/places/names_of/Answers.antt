use Rattle.plcx_names.specs.Bodies.{is_key_of}
use Rattle.plcx_names.specs.Told.{place_at}
use Rattle.plcx_names.proofs.Firsts.{more, done}
use Rattle.plcx_names.proofs.places.names_of.Goals as goal

pub loop-place-preserved : goal.loop-place-preserved
loop-place-preserved c = λ q.
    more (is_key_of c.args.naming q) c.loop-place.place c.args.elements.now c.index-elements-place.result (place_at q c.loop-place.table.entries) _ _ c.loop-place-test.true c.index-elements-place.is (c.in_ok-table.ensures q) (c.loop-place.invariant q)

pub returns : goal.returns
returns c = λ q. done (is_key_of c.args.naming q) c.loop-place.place c.args.elements.now (place_at q c.loop-place.table.entries) _ c.loop-place-test.false (c.loop-place.invariant q)
