use Rattle.std.proofs.Common.{◌≡◌, ◌<◌, ℕ, List, slice_index, length, take, inl, inr, sym, ◌∙◌, ap, subst, arith}
use Rattle.std.proofs.lemmas.Bool.{cases_eq}
use Rattle.plcx_model.specs.Graph.{Graph, IsGraph, elements}
use Rattle.plcx_model.specs.Shown.{graph_of}
use Rattle.plcx_model.specs.Networks.{Listed, IsNetwork}
use Rattle.plcx_order.specs.Counts.{one, entries_of}
use Rattle.plcx_order.proofs.InNetwork.{inside}
use Rattle.plcx_order.proofs.OneOrder.{stays_listed, last_listed, was_listed}
use Rattle.plcx_order.proofs.RisingLists.{nth_listed, not_earlier, one_further, all_taken}
use Rattle.plcx_order.proofs.listing.first.Goals as goal

nth_within : (g : Graph) (network : List ℕ) (k : ℕ) → IsGraph g → IsNetwork g network → k < length network → slice_index network k < elements g
nth_within g network k is m h = inside g network is m (slice_index network k) (nth_listed network k h)

pub count-requires : goal.count-requires
count-requires c = omega (arith, c.requires.counts, nth_within (graph_of c.args.wires.now) c.args.network.now c.loop-k.k c.args.wires.now.graph c.requires.network c.loop-k-test.true)

pub offer-requires-clause-element : goal.offer-requires-clause-element
offer-requires-clause-element c = nth_within (graph_of c.args.wires.now) c.args.network.now c.loop-k.k c.args.wires.now.graph c.requires.network c.loop-k-test.true

pub offer-requires-clause-inside : goal.offer-requires-clause-inside
offer-requires-clause-inside c = nth_listed c.args.network.now c.loop-k.k c.loop-k-test.true

pub loop-k-preserved : goal.loop-k-preserved
loop-k-preserved c =
    let network = c.args.network.now in
    let k = c.loop-k.k in
    let x = slice_index network k in
    let counts = c.args.waits.now.count.items in
    let next = one_further network k c.loop-k-test.true in
    let before : entries_of c.loop-k.ready x ≡ 0 = c.loop-k.invariant.others x (not_earlier network k c.requires.network.rising c.loop-k-test.true) in
    record {
      seen = λ w h. elim (cases_eq x w) [
        | inl is ↦ subst (λ v. entries_of c.offer.new.ready v ≡ one (slice_index counts v) 0) is (omega (arith, c.in_ok-offer.ensures.it, before, ap (λ k. one k 0) c.count.ensures))
        | inr other ↦ elim (was_listed (take k network) x w (subst (λ xs. Listed xs w) next h)) [
          | inl is ↦ absurd (other (sym is))
          | inr earlier ↦ c.in_ok-offer.ensures.others w other ∙ c.loop-k.invariant.seen w earlier
        ]
      ];
      others = λ w out.
          let new : x ≡ w → ⊥ = λ is. out (subst (λ xs. Listed xs w) (sym next) (last_listed (take k network) x w (sym is))) in
          c.in_ok-offer.ensures.others w new ∙ c.loop-k.invariant.others w (λ earlier. out (subst (λ xs. Listed xs w) (sym next) (stays_listed (take k network) x w earlier)));
      entries = c.in_ok-offer.ensures.entries;
    }

pub returns-clause-once : goal.returns-clause-once
returns-clause-once c = λ v h. c.loop-k.invariant.seen v (all_taken c.args.network.now c.loop-k.k v (omega (arith, c.loop-k-test.false, c.loop-k.auto.k-end)) h)
