use Rattle.std.proofs.Common.{nat_eq}
use Rattle.plcx_model.specs.declared.body.BodyElement.{BodyElement}
use Rattle.plcx_names.specs.Told.{place_of_number}
use Rattle.plcx_names.proofs.Firsts.{more, done}
use Rattle.plcx_names.proofs.places.ids_of.Goals as goal

pub loop-place-preserved : goal.loop-place-preserved
loop-place-preserved c = λ q.
    more (λ (e : BodyElement). nat_eq e.local_id q) c.loop-place.place c.args.elements.now c.index-elements-place.result (place_of_number q c.loop-place.table.entries) _ _ c.loop-place-test.true c.index-elements-place.is (c.in_ok-table.ensures q) (c.loop-place.invariant q)

pub returns : goal.returns
returns c = λ q. done (λ (e : BodyElement). nat_eq e.local_id q) c.loop-place.place c.args.elements.now (place_of_number q c.loop-place.table.entries) _ c.loop-place-test.false (c.loop-place.invariant q)
