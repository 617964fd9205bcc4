use Rattle.std.proofs.Common.{◌+◌, ◌<◌, List, length, sym, ap, ◌∙◌, arith}
use Rattle.std.proofs.lemmas.List.{length-set}
use Rattle.plcx_types.specs.Value.{Value}
use Rattle.plcx_std.specs.State.{values}
use Rattle.plcx_steps.specs.Numbered.{value_at}
use Rattle.plcx_steps.proofs.Places.{type_at, type_set, written, range_by}
use Rattle.plcx_steps.proofs.acting.load.Goals as goal

pub loop-i-preserved : goal.loop-i-preserved
loop-i-preserved c =
    let inv = c.loop-i.invariant in
    let is = c.set.ensures.values in
    let low = c.loop-i-test.true in
    let count = inv.count in
    let there : c.loop-i.i < length (values c.loop-i.state) = omega arith in
    record {
      count = ap length is ∙ length-set (values c.loop-i.state) c.loop-i.i c.stored.result ∙ count;
      kind = c.set.ensures.kind ∙ inv.kind;
      typed = λ k h.
          ap (λ (xs : List Value). type_at xs k) is
          ∙ type_set (values c.loop-i.state) c.loop-i.i k c.stored.result there (ap (λ (v : Value). v.ty) c.stored.ensures ∙ sym (inv.typed c.loop-i.i low))
          ∙ inv.typed k h;
      done = λ k h. ap (λ (xs : List Value). value_at xs k) is ∙ written (values c.loop-i.state) c.loop-i.i c.stored.result (λ j. value_at c.args.store.now.values (c.args.leaf + j)) there c.stored.ensures inv.done k h;
    }

pub returns-clause-values : goal.returns-clause-values
returns-clause-values c =
    let past = c.loop-i-test.false in
    range_by (values c.loop-i.state) c.args.store.now.values c.args.leaf c.args.count c.loop-i.invariant.count c.requires.there (λ k h. c.loop-i.invariant.done k (omega arith))
