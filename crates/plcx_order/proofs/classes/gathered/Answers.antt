use Rattle.std.proofs.Common.{◌≡◌, ◌<◌, ◌+◌, ℕ, suc, [], List, length, get_or, slice_index, nat_eq, sym, ◌∙◌, ap, arith}
use Rattle.std.proofs.lemmas.List.{get_or_read}
use Rattle.plcx_order.specs.Classes.{append_if, class_below}
use Rattle.plcx_order.proofs.classes.gathered.Goals as goal

pub loop-v-preserved : goal.loop-v-preserved
loop-v-preserved c =
    let number = c.args.classes.now.number.items in
    let firsts = c.args.classes.now.firsts.items in
    let v = c.loop-v.v in
    let next : v + 1 ≡ suc v = omega arith in
    let low : v < length number = omega (arith, c.loop-v-test.true, c.len-v-end.ensures, c.args.classes.now.number.ok.0) in
    let read : c.index.result.now ≡ slice_index number v = get_or_read number v c.index.result.now low c.index.ensures 0 in
    record {
      count = c.in_ok-put.ensures.count ∙ c.loop-v.invariant.count;
      at = λ k h.
          let old = c.loop-v.invariant.at k h in
          let put = c.in_ok-put.ensures.lists k (omega (arith, c.loop-v.invariant.count)) in
          put ∙ (ap (λ n. append_if (nat_eq n (k + 1)) (get_or c.loop-v.lists.items k []) v) read ∙ (ap (λ (xs : List ℕ). append_if (nat_eq (slice_index number v) (k + 1)) xs v) old ∙ ap (class_below number k) (sym next)));
    }
