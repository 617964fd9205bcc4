use Rattle.std.specs.Map.{lookup}
use Rattle.std.specs.Str.{bytes_eq}
use Rattle.plcx_profile.specs.Blocks.{is_block_named, block_named}
use Rattle.plcx_profile.proofs.Tables.{more, done}
use Rattle.plcx_profile.proofs.blocks.places_in.Goals as goal

pub loop-place-preserved : goal.loop-place-preserved
loop-place-preserved c = λ q.
    more (is_block_named q) c.loop-place.place c.args.pous.now c.index-pous-place.result (lookup (λ k. bytes_eq q k.items) c.loop-place.table.entries) _ _ c.loop-place-test.true c.index-pous-place.is (c.in_ok-table.ensures q) (c.loop-place.invariant q)

pub returns : goal.returns
unfolding block_named
returns c = λ q. done (is_block_named q) c.loop-place.place c.args.pous.now (lookup (λ k. bytes_eq q k.items) c.loop-place.table.entries) _ c.loop-place-test.false (c.loop-place.invariant q)
