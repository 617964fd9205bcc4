use Rattle.std.proofs.Common.{◌≡◌, ◌<◌, ◌-◌, ℕ, length, slice_index, sym, ◌∙◌, ap, subst, arith}
use Rattle.std.proofs.lemmas.Bool.{cases_lt}
use Rattle.std.proofs.Common.{inl, inr}
use Rattle.plcx_order.specs.Walks.{state_of, Closes}
use Rattle.plcx_order.proofs.Close.{close}
use Rattle.plcx_model.specs.Graph.{elements}
use Rattle.plcx_model.specs.Shown.{graph_of}
use Rattle.plcx_order.proofs.walk.Walk.turn.Goals as goal

pub close-requires-clause-agree : goal.close-requires-clause-agree
close-requires-clause-agree c =
    let way = c.requires.under_way in
    record {
      inside = λ p h. omega (arith, way.good.inside p h, way.places);
      stands = way.good.stands;
      placed = λ v p h e. way.good.placed v p (omega (arith, way.places)) e;
    }

pub returns-in_ok-close-in-None-clause-under_way : goal.returns-in_ok-close-in-None-clause-under_way
returns-in_ok-close-in-None-clause-under_way c =
    let w = c.args.self.now in
    let way = c.requires.under_way in
    let n = (elements (graph_of c.args.wires.now)) in
    let s = state_of w in
    let t = state_of c.close.new.self in
    let closes = subst (λ m. Closes m s t) way.places c.in_ok-close-in-None.ensures.closes in
    let top : slice_index w.starts.items (length c.close.new.self.starts.items) ≡ c.args.first = ap (slice_index w.starts.items) (omega (arith, closes.starts)) ∙ sym c.requires.first in
    let none = subst (λ xs. 0 < length xs → slice_index xs (length xs - 1) < c.args.first) c.deref.ensures.value c.in-None.ensures.none in
    let idle : (k : ℕ) → k < length w.todo.items → slice_index w.todo.items k < length c.close.new.self.stack.items = λ k h.
    let last : slice_index w.todo.items (length w.todo.items - 1) < c.args.first = none (omega arith) in
    elim (cases_lt k (length w.todo.items - 1)) [
      | inl lt ↦ omega (arith, way.good.todo_rise k (length w.todo.items - 1) lt (omega arith), closes.height)
      | inr ge ↦ let at : k ≡ length w.todo.items - 1 = omega arith in omega (arith, ap (slice_index w.todo.items) at, closes.height)
    ] in
    record {
      places = c.in_ok-close-in-None.ensures.places ∙ way.places;
      lefts = ap (λ x. length x.items) c.in_ok-close-in-None.ensures.left ∙ way.lefts;
      good = close n (graph_of c.args.wires.now).wires s t c.args.wires.now.graph.within way.good closes idle;
    }
