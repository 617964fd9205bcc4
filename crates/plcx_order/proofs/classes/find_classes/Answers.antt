use Rattle.std.proofs.Common.{◌≡◌, ◌<◌, length, slice_index, get_or, inl, inr, sym, ◌∙◌, ap, subst, arith}
use Rattle.std.proofs.lemmas.List.{get_or_read, get_or_default}
use Rattle.std.proofs.lemmas.Bool.{cases_lt}
use Rattle.plcx_model.specs.Graph.{TakesPart, PlaceBefore, elements}
use Rattle.plcx_model.specs.Shown.{graph_of}
use Rattle.plcx_order.specs.declared.standing.Standing.{Standing}
use Rattle.plcx_order.specs.Classes.{standing_at, standing_of}
use Rattle.plcx_order.proofs.InNetwork.{part_within}
use Rattle.plcx_order.proofs.LinkSteps.{root_is_least}
use Rattle.std.proofs.Common.{pos, ◌⊎◌}
use Rattle.plcx_order.proofs.classes.find_classes.Goals as goal

pub visit-requires-clause-least : goal.visit-requires-clause-least
visit-requires-clause-least g c = λ v takes unseen.
    let graph = graph_of c.args.wires.now in
    let xs = c.in_ok-standings.standings.items in
    let k = c.loop-k.k in
    let none : Standing = record { place = record { y = pos 0; x = pos 0; local_id = 0 }; element = 0 } in
    let low : k < length xs = omega (arith, c.loop-k-test.true, c.len-k-end.ensures, c.in_ok-standings.standings.ok.0) in
    let read : c.index.result.now ≡ get_or xs k none = get_or_read xs k c.index.result.now low c.index.ensures none in
    let least = root_is_least graph xs none k v c.args.wires.now.graph c.in_ok-standings.ensures.all c.in_ok-standings.ensures.sorted low (part_within graph v c.args.wires.now.graph takes)
    (λ j lt is. let seen = c.loop-k.invariant.seen j lt (subst (TakesPart graph) is takes) in omega (arith, ap (slice_index c.loop-k.classes.number.items) is)) in
    subst (λ (s : Standing). (v ≡ s.element) ⊎ PlaceBefore graph s.element v) (sym read) least

pub visit-requires-clause-element : goal.visit-requires-clause-element
visit-requires-clause-element g c =
    let graph = graph_of c.args.wires.now in
    let xs = c.in_ok-standings.standings.items in
    let k = c.loop-k.k in
    let none : Standing = record { place = record { y = pos 0; x = pos 0; local_id = 0 }; element = 0 } in
    let low : k < length xs = omega (arith, c.loop-k-test.true, c.len-k-end.ensures, c.in_ok-standings.standings.ok.0) in
    let read : c.index.result.now ≡ get_or xs k none = get_or_read xs k c.index.result.now low c.index.ensures none in
    subst (λ (s : Standing). s.element < elements graph) (sym read) (c.in_ok-standings.ensures.all.each k none low).element

pub loop-k-preserved : goal.loop-k-preserved
loop-k-preserved g c =
    let graph = graph_of c.args.wires.now in
    let xs = c.in_ok-standings.standings.items in
    let k = c.loop-k.k in
    let none : Standing = record { place = record { y = pos 0; x = pos 0; local_id = 0 }; element = 0 } in
    let low : k < length xs = omega (arith, c.loop-k-test.true, c.len-k-end.ensures, c.in_ok-standings.standings.ok.0) in
    let read : c.index.result.now ≡ get_or xs k none = get_or_read xs k c.index.result.now low c.index.ensures none in
    let e = c.in_ok-visit.ensures in
    let number = c.visit.new.self.number.items in
    record {
      spread = e.spread;
      empty = e.empty;
      seen = λ j h takes. elim (cases_lt j k) [
        | inl lt ↦
            let was = c.loop-k.invariant.seen j lt takes in
            let now = e.kept (standing_at xs j).element was in
            omega arith
        | inr ge ↦
            let at : j ≡ k = omega arith in
            let root : (standing_at xs j).element ≡ c.index.result.now.element = ap (λ i. (standing_at xs i).element) at ∙ ap (λ (s : Standing). s.element) (sym read) in
            subst (λ x. 0 < slice_index number x) (sym root) (e.seen (subst (TakesPart graph) root takes))
      ];
    }

pub returns-clause-seen : goal.returns-clause-seen
returns-clause-seen g c = λ v takes.
    let graph = graph_of c.args.wires.now in
    let xs = c.in_ok-standings.standings.items in
    let none : Standing = record { place = record { y = pos 0; x = pos 0; local_id = 0 }; element = 0 } in
    let there = c.in_ok-standings.ensures.all.whole v (part_within graph v c.args.wires.now.graph takes) in
    let at : get_or xs there.0 none ≡ standing_of graph v = get_or_default xs there.0 none (standing_of graph v) there.1 ∙ there.2 in
    let element : (standing_at xs there.0).element ≡ v = ap (λ (s : Standing). s.element) at in
    let low : there.0 < c.loop-k.k = omega (arith, there.1, c.loop-k-test.false, c.len-k-end.ensures, c.in_ok-standings.standings.ok.0) in
    subst (λ x. 0 < slice_index c.loop-k.classes.number.items x) element (c.loop-k.invariant.seen there.0 low (subst (TakesPart graph) (sym element) takes))
