use Rattle.plcx_names.specs.declared.variables.OwnVariable.{OwnVariable}
use Rattle.plcx_names.specs.Seen.{is_declared, shown_variable}
use Rattle.plcx_names.specs.Told.{place_at}
use Rattle.plcx_names.proofs.Firsts.{more, done}
use Rattle.plcx_names.proofs.variables.places_of.Goals as goal

pub loop-place-preserved : goal.loop-place-preserved
loop-place-preserved c = λ q.
    more (λ (v : OwnVariable). is_declared q (shown_variable v)) c.loop-place.place c.args.all.now c.index-all-place.result (place_at q c.loop-place.table.entries) _ _ c.loop-place-test.true c.index-all-place.is (c.in_ok-table.ensures q) (c.loop-place.invariant q)

pub returns : goal.returns
returns c = λ q. done (λ (v : OwnVariable). is_declared q (shown_variable v)) c.loop-place.place c.args.all.now (place_at q c.loop-place.table.entries) _ c.loop-place-test.false (c.loop-place.invariant q)
