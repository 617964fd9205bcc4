use Rattle.std.proofs.Common.{◌∷◌, subst, sym, ◌∙◌, ap, arith}
use Rattle.std.proofs.lemmas.List.Elements.{All-cons}
use Rattle.std.proofs.lemmas.List.Sorted.{sum_by_pushed, All-permutation}
use Rattle.plcx_model.specs.Shown.{graph_of}
use Rattle.plcx_model.specs.Networks.{Listed}
use Rattle.plcx_order.specs.declared.ready.Entry.{Entry}
use Rattle.plcx_order.specs.Ranks.{rank_of}
use Rattle.plcx_order.specs.Counts.{IsEntry, one}
use Rattle.plcx_order.proofs.listing.tell_one.Goals as goal

pub returns-in_ok-push-in-Some-clause-balance : goal.returns-in_ok-push-in-Some-clause-balance
returns-in_ok-push-in-Some-clause-balance c = λ w hw.
    let entry : Entry = record { rank = c.rank_of.result; element = c.in-Some.element } in
    let more = sum_by_pushed (λ (e : Entry). one e.element w) entry c.args.ready.now c.push.new.self c.in_ok-push-in-Some.ensures in
    omega (arith, more, c.in-Some.ensures.came w hw)

pub returns-in_ok-push-in-Some-clause-entries : goal.returns-in_ok-push-in-Some-clause-entries
returns-in_ok-push-in-Some-clause-entries c =
    let g = graph_of c.args.wires.now in
    let part = c.args.network.now in
    let entry : Entry = record { rank = c.rank_of.result; element = c.in-Some.element } in
    All-permutation (IsEntry g part) (entry ∷ c.args.ready.now) c.push.new.self c.in_ok-push-in-Some.ensures (All-cons (IsEntry g part) entry c.args.ready.now (record { element = subst (Listed part) (sym c.in-Some.ensures.element.1) (c.requires.inside c.in-Some.ensures.element.2); rank = c.rank_of.ensures ∙ ap rank_of c.key.ensures }) c.requires.entries)
