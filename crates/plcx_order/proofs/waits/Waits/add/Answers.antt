use Rattle.std.proofs.Common.{◌≡◌, ◌≤◌, ◌+◌, ◌++◌, ◌∷◌, [], true, false, set, slice_index, sym, ◌∙◌, ap, subst, arith}
use Rattle.std.proofs.lemmas.List.{get_or_read}
use Rattle.plcx_order.specs.Counts.{IsCounted}
use Rattle.plcx_order.proofs.Counting.{counted_skip, counted_more, count_bound}
use Rattle.plcx_model.specs.Graph.{elements}
use Rattle.plcx_model.specs.Shown.{graph_of}
use Rattle.plcx_order.proofs.waits.Waits.add.Goals as goal

pub overflow_add-index_mut : goal.overflow_add-index_mut
overflow_add-index_mut c =
    let k = c.args.self.now.count.items in
    let m = c.requires.counted in
    let read : c.index_mut.result.now ≡ slice_index k c.args.v = get_or_read k c.args.v c.index_mut.result.now (omega (arith, m.counts)) c.index_mut.ensures.value 0 in
    let bound : slice_index k c.args.v ≤ c.args.i = subst (λ x. x ≤ c.args.i) (sym (m.each c.args.v c.requires.element)) (count_bound c.args.i _) in
    omega (arith, c.args.wires.now.wires.ok.0)

pub returns-then-not-awaited-clause-counted : goal.returns-then-not-awaited-clause-counted
returns-then-not-awaited-clause-counted c =
    let a = c.args.self.now.awaited.items in
    let pushed : c.push.new.self.items ≡ a ++ false ∷ [] = c.in_ok-push.ensures.items ∙ ap (λ b. a ++ b ∷ []) c.if-not-awaited.true in
    subst (λ x. IsCounted (elements (graph_of c.args.wires.now)) (graph_of c.args.wires.now).wires (c.args.i + 1) x c.args.self.now.count.items) (sym pushed) (counted_skip (elements (graph_of c.args.wires.now)) (graph_of c.args.wires.now).wires a c.args.self.now.count.items c.args.i c.requires.counted)

pub returns-clause-counted : goal.returns-clause-counted
returns-clause-counted c =
    let a = c.args.self.now.awaited.items in
    let k = c.args.self.now.count.items in
    let m = c.requires.counted in
    let read : c.index_mut.result.now ≡ slice_index k c.args.v = get_or_read k c.args.v c.index_mut.result.now (omega (arith, m.counts)) c.index_mut.ensures.value 0 in
    let pushed : c.push.new.self.items ≡ a ++ true ∷ [] = c.in_ok-push.ensures.items ∙ ap (λ b. a ++ b ∷ []) c.if-not-awaited.false in
    subst (λ x. IsCounted (elements (graph_of c.args.wires.now)) (graph_of c.args.wires.now).wires (c.args.i + 1) x (set k c.args.v (c.index_mut.result.now + 1))) (sym pushed) (counted_more (elements (graph_of c.args.wires.now)) (graph_of c.args.wires.now).wires a k c.args.i c.args.v c.index_mut.result.now m c.requires.to c.requires.element read)
