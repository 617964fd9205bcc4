use Rattle.std.specs.Map.{lookup}
use Rattle.std.specs.Str.{bytes_eq}
use Rattle.plcx_state.specs.Tables.{is_printed, printed_at, HasPlainNames}
use Rattle.plcx_state.proofs.Tables.{more, done}
use Rattle.plcx_state.proofs.Eaches.{each_more}
use Rattle.plcx_state.proofs.table.numbers_of.Goals as goal

pub loop-number-preserved : goal.loop-number-preserved
loop-number-preserved c = record {
  tells = λ q. more (is_printed q) c.loop-number.number c.args.leaves.now c.index-leaves-number.result (lookup (λ k. bytes_eq q k.items) c.loop-number.numbers.entries) _ _ c.loop-number-test.true c.index-leaves-number.is (c.in_ok-numbers.ensures.tells q) (c.loop-number.invariant.tells q);
  plain = each_more HasPlainNames c.args.leaves.now c.loop-number.number c.index-leaves-number.result c.loop-number-test.true c.index-leaves-number.is c.in_ok-numbers.ensures.plain c.loop-number.invariant.plain;
}

pub returns-clause-tells : goal.returns-clause-tells
unfolding printed_at
returns-clause-tells c = λ q. done (is_printed q) c.loop-number.number c.args.leaves.now (lookup (λ k. bytes_eq q k.items) c.loop-number.numbers.entries) _ c.loop-number-test.false (c.loop-number.invariant.tells q)
