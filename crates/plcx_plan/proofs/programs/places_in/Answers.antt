use Rattle.std.specs.Map.{lookup}
use Rattle.std.specs.Str.{bytes_eq}
use Rattle.plcx_plan.specs.Conditions.{is_program_named, program_at}
use Rattle.plcx_plan.proofs.Tables.{more, done}
use Rattle.plcx_plan.proofs.programs.places_in.Goals as goal

pub loop-place-preserved : goal.loop-place-preserved
loop-place-preserved c = λ q.
    more (is_program_named q) c.loop-place.place c.args.pous.now c.index-pous-place.result (lookup (λ k. bytes_eq q k.items) c.loop-place.table.entries) _ _ c.loop-place-test.true c.index-pous-place.is (c.in_ok-table.ensures q) (c.loop-place.invariant q)

pub returns : goal.returns
unfolding program_at
returns c = λ q. done (is_program_named q) c.loop-place.place c.args.pous.now (lookup (λ k. bytes_eq q k.items) c.loop-place.table.entries) _ c.loop-place-test.false (c.loop-place.invariant q)
