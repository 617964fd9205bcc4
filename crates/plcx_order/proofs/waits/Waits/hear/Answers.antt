use Rattle.std.proofs.Common.{◌≡◌, ◌-◌, true, false, set, slice_index, sym, ◌∙◌, ap, arith, get_or-set_same, get_or-set_other, length-set, inl, inr}
use Rattle.std.proofs.lemmas.List.{get_or_read}
use Rattle.std.proofs.lemmas.Bool.{cases_eq}
use Rattle.plcx_order.specs.Counts.{one, is_awaited}
use Rattle.plcx_order.proofs.Counting.{positive, hear_counted, one_same, one_other}
use Rattle.plcx_model.specs.Graph.{elements}
use Rattle.plcx_model.specs.Shown.{graph_of}
use Rattle.plcx_order.proofs.waits.Waits.hear.Goals as goal

pub overflow_sub-index_mut : goal.overflow_sub-index_mut
overflow_sub-index_mut c =
    let a = c.args.self.now.awaited.items in
    let k = c.args.self.now.count.items in
    let m = c.requires.counted in
    let on : is_awaited a c.args.i ≡ true = sym (get_or_read a c.args.i c.index-was.result.now (omega (arith, m.opens)) c.index-was.ensures false) ∙ c.if-not-was.false in
    let read : c.index_mut-2.result.now ≡ slice_index k c.args.v = get_or_read k c.args.v c.index_mut-2.result.now (omega (arith, m.counts)) c.index_mut-2.ensures.value 0 in
    omega (arith, positive (elements (graph_of c.args.wires.now)) (graph_of c.args.wires.now).wires a k c.args.i c.args.v m c.requires.within c.requires.to c.requires.element on)

pub returns-then-index-eq0-clause-counted : goal.returns-then-index-eq0-clause-counted
returns-then-index-eq0-clause-counted c =
    let a = c.args.self.now.awaited.items in
    let k = c.args.self.now.count.items in
    let m = c.requires.counted in
    let on : is_awaited a c.args.i ≡ true = sym (get_or_read a c.args.i c.index-was.result.now (omega (arith, m.opens)) c.index-was.ensures false) ∙ c.if-not-was.false in
    let read : c.index_mut-2.result.now ≡ slice_index k c.args.v = get_or_read k c.args.v c.index_mut-2.result.now (omega (arith, m.counts)) c.index_mut-2.ensures.value 0 in
    hear_counted (elements (graph_of c.args.wires.now)) (graph_of c.args.wires.now).wires a k c.args.i c.args.v c.index_mut-2.result.now m c.requires.within c.requires.to c.requires.element on read

pub returns-else-index-eq0-clause-counted : goal.returns-else-index-eq0-clause-counted
returns-else-index-eq0-clause-counted c =
    let a = c.args.self.now.awaited.items in
    let k = c.args.self.now.count.items in
    let m = c.requires.counted in
    let on : is_awaited a c.args.i ≡ true = sym (get_or_read a c.args.i c.index-was.result.now (omega (arith, m.opens)) c.index-was.ensures false) ∙ c.if-not-was.false in
    let read : c.index_mut-2.result.now ≡ slice_index k c.args.v = get_or_read k c.args.v c.index_mut-2.result.now (omega (arith, m.counts)) c.index_mut-2.ensures.value 0 in
    hear_counted (elements (graph_of c.args.wires.now)) (graph_of c.args.wires.now).wires a k c.args.i c.args.v c.index_mut-2.result.now m c.requires.within c.requires.to c.requires.element on read

pub returns-then-index-eq0-clause-came : goal.returns-then-index-eq0-clause-came
returns-then-index-eq0-clause-came c = λ w hw.
    let a = c.args.self.now.awaited.items in
    let k = c.args.self.now.count.items in
    let v = c.args.v in
    let m = c.requires.counted in
    let on : is_awaited a c.args.i ≡ true = sym (get_or_read a c.args.i c.index-was.result.now (omega (arith, m.opens)) c.index-was.ensures false) ∙ c.if-not-was.false in
    let read : c.index_mut-2.result.now ≡ slice_index k v = get_or_read k v c.index_mut-2.result.now (omega (arith, m.counts)) c.index_mut-2.ensures.value 0 in
    let pos = positive (elements (graph_of c.args.wires.now)) (graph_of c.args.wires.now).wires a k c.args.i v m c.requires.within c.requires.to c.requires.element on in
    let new = set k v (c.index_mut-2.result.now - 1) in
    let here : slice_index new v ≡ c.index_mut-2.result.now - 1 = get_or-set_same k v (c.index_mut-2.result.now - 1) 0 (omega (arith, m.counts)) in
    let none : slice_index new v ≡ 0 = sym (get_or_read new v c.index.result.now (omega (arith, length-set k v (c.index_mut-2.result.now - 1), m.counts)) c.index.ensures 0) ∙ c.if-index-eq0.true in
    elim (cases_eq w v) [
      | inl is ↦ omega (arith, one_same (slice_index new w) 0 (ap (slice_index new) is ∙ none), one_other (slice_index k w) 0 (λ e. omega (arith, ap (slice_index k) is)), one_same v w (sym is))
      | inr other ↦ omega (arith, ap (λ x. one x 0) (get_or-set_other k v w (c.index_mut-2.result.now - 1) 0 other), one_other v w (λ e. other (sym e)))
    ]
