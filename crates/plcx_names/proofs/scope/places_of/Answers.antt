use Rattle.plcx_names.specs.Seen.{is_block_key}
use Rattle.plcx_names.specs.Told.{place_at}
use Rattle.plcx_names.proofs.Firsts.{more, done}
use Rattle.plcx_names.proofs.scope.places_of.Goals as goal

pub loop-place-preserved : goal.loop-place-preserved
loop-place-preserved c = λ q.
    more (is_block_key q) c.loop-place.place c.args.pous.now c.index-pous-place.result (place_at q c.loop-place.table.entries) _ _ c.loop-place-test.true c.index-pous-place.is (c.in_ok-table.ensures q) (c.loop-place.invariant q)

pub returns : goal.returns
returns c = λ q. done (is_block_key q) c.loop-place.place c.args.pous.now (place_at q c.loop-place.table.entries) _ c.loop-place-test.false (c.loop-place.invariant q)
