use Rattle.std.proofs.Common.{◌∷◌, refl, ◌∙◌, ap, arith}
use Rattle.std.proofs.lemmas.List.Elements.{All-cons}
use Rattle.std.proofs.lemmas.List.Sorted.{sum_by_pushed, All-permutation}
use Rattle.plcx_model.specs.Shown.{graph_of}
use Rattle.plcx_order.specs.declared.ready.Entry.{Entry}
use Rattle.plcx_order.specs.Ranks.{rank_of}
use Rattle.plcx_order.specs.Counts.{IsEntry, one}
use Rattle.plcx_order.proofs.Counting.{one_same, one_other}
use Rattle.plcx_order.proofs.listing.offer.Goals as goal

pub returns-then-count-ne0-clause-it : goal.returns-then-count-ne0-clause-it
returns-then-count-ne0-clause-it c = omega (arith, one_other c.args.count 0 (λ e. omega arith))

pub returns-clause-it : goal.returns-clause-it
returns-clause-it c =
    let entry : Entry = record { rank = c.rank_of.result; element = c.args.v } in
    omega (arith, sum_by_pushed (λ (e : Entry). one e.element c.args.v) entry c.args.ready.now c.push.new.self c.in_ok-push.ensures, one_same c.args.v c.args.v refl, one_same c.args.count 0 (omega arith))

pub returns-clause-others : goal.returns-clause-others
returns-clause-others c = λ w other.
    let entry : Entry = record { rank = c.rank_of.result; element = c.args.v } in
    omega (arith, sum_by_pushed (λ (e : Entry). one e.element w) entry c.args.ready.now c.push.new.self c.in_ok-push.ensures, one_other c.args.v w other)

pub returns-clause-entries : goal.returns-clause-entries
returns-clause-entries c =
    let g = graph_of c.args.wires.now in
    let part = c.args.network.now in
    let entry : Entry = record { rank = c.rank_of.result; element = c.args.v } in
    All-permutation (IsEntry g part) (entry ∷ c.args.ready.now) c.push.new.self c.in_ok-push.ensures (All-cons (IsEntry g part) entry c.args.ready.now (record { element = c.requires.inside; rank = c.rank_of.ensures ∙ ap rank_of c.key.ensures }) c.requires.entries)
