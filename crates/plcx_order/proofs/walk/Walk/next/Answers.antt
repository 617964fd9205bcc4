use Rattle.std.proofs.Common.{◌≡◌, ◌<◌, ◌≤◌, ◌-◌, ℕ, length, set, sum, slice_index, sym, ◌∙◌, ap, subst, arith, get_or-set_same, get_or-set_other, length-set}
use Rattle.std.proofs.lemmas.List.{get_or_read}
use Rattle.std.proofs.lemmas.List.Sums.{sum_by-set}
use Rattle.plcx_model.specs.Graph.{from_at, to_at}
use Rattle.plcx_order.specs.Walks.{state_of, IsLast, Goes}
use Rattle.plcx_order.proofs.Turns.{rest, pass, Went, go_keeps}
use Rattle.plcx_model.specs.Graph.{elements}
use Rattle.plcx_model.specs.Shown.{graph_of}
use Rattle.plcx_order.proofs.walk.Walk.next.Goals as goal

pub returns-then-left-eq0-clause-under_way : goal.returns-then-left-eq0-clause-under_way
returns-then-left-eq0-clause-under_way c =
    let w = c.args.self.now in
    let way = c.requires.under_way in
    let g = way.good in
    let rest_todo = c.drop_last.new.numbers.items in
    let at : slice_index w.todo.items (length rest_todo) ≡ c.args.p = ap (slice_index w.todo.items) (omega (arith, c.drop_last.ensures.count)) ∙ sym c.requires.todo in
    let below : c.args.p < length w.stack.items = omega (arith, g.todo_top (length w.todo.items - 1) (omega arith)) in
    let u : c.index-u.result.now ≡ slice_index w.stack.items c.args.p = get_or_read w.stack.items c.args.p c.index-u.result.now below c.index-u.ensures 0 in
    let left : c.index-left.result.now ≡ slice_index w.left.items c.index-u.result.now = get_or_read w.left.items c.index-u.result.now c.index-left.result.now (omega (arith, g.inside c.args.p below)) c.index-left.ensures 0 in
    record {
      places = way.places;
      lefts = way.lefts;
      good = rest (elements (graph_of c.args.wires.now)) (graph_of c.args.wires.now).wires (state_of w) (slice_index rest_todo) (length rest_todo) g c.drop_last.ensures.count c.drop_last.ensures.rest
          (ap (λ x. slice_index w.left.items (slice_index w.stack.items x)) at ∙ (ap (slice_index w.left.items) (sym u) ∙ (sym left ∙ c.if-left-eq0.true)));
    }

record Facts (c : goal.After-self-1) : Type 0 where
  below : c.args.p < length c.args.self.now.stack.items
  u : c.index-u.result.now ≡ slice_index c.args.self.now.stack.items c.args.p
  left : c.index-left.result.now ≡ slice_index c.args.self.now.left.items c.index-u.result.now
  bound : c.index-left.result.now ≤ length (graph_of c.args.wires.now).wires
  out : from_at (graph_of c.args.wires.now).wires (c.index-left.result.now - 1) ≡ c.index-u.result.now
  into : c.index.result.now ≡ to_at (graph_of c.args.wires.now).wires (c.index-left.result.now - 1)
  next : IsLast (graph_of c.args.wires.now).wires (c.index-left.result.now - 1) c.index-u.result.now c.index-2.result.now

facts : (c : goal.After-self-1) → Facts c
facts c =
    let w = c.args.self.now in
    let way = c.requires.under_way in
    let g = way.good in
    let ws = (graph_of c.args.wires.now).wires in
    let i : ℕ = c.index-left.result.now - 1 in
    let below : c.args.p < length w.stack.items = omega (arith, g.todo_top (length w.todo.items - 1) (omega arith)) in
    let u : c.index-u.result.now ≡ slice_index w.stack.items c.args.p = get_or_read w.stack.items c.args.p c.index-u.result.now below c.index-u.ensures 0 in
    let in_n : c.index-u.result.now < (elements (graph_of c.args.wires.now)) = omega (arith, g.inside c.args.p below) in
    let left : c.index-left.result.now ≡ slice_index w.left.items c.index-u.result.now = get_or_read w.left.items c.index-u.result.now c.index-left.result.now (omega arith) c.index-left.ensures 0 in
    let chain = g.chained c.index-u.result.now in_n in
    let bound : c.index-left.result.now ≤ length ws = omega (arith, chain.0) in
    let out : from_at ws i ≡ c.index-u.result.now = ap (λ x. from_at ws (x - 1)) left ∙ chain.1 (omega arith) in
    let inside : i < length ws = omega arith in
    record {
      below = below;
      u = u;
      left = left;
      bound = bound;
      out = out;
      into = get_or_read c.args.table.now.to.items i c.index.result.now (omega (arith, c.requires.table.tos)) c.index.ensures 0 ∙ c.requires.table.into i inside;
      next =
          let read : c.index-2.result.now ≡ slice_index c.args.table.now.before.items i = get_or_read c.args.table.now.before.items i c.index-2.result.now (omega (arith, c.requires.table.befores)) c.index-2.ensures 0 in
          subst (λ x. IsLast ws i x c.index-2.result.now) out (subst (IsLast ws i (from_at ws i)) (sym read) (c.requires.table.last i inside));
    }

went : (c : goal.After-self-1) → Went (elements (graph_of c.args.wires.now)) (graph_of c.args.wires.now).wires (state_of c.args.self.now) (state_of c.go.new.self) (c.index-left.result.now - 1)
went c =
    let f = facts c in
    let g = c.requires.under_way.good in
    go_keeps (elements (graph_of c.args.wires.now)) (graph_of c.args.wires.now).wires (state_of c.args.self.now) (state_of c.go.new.self) c.args.p (c.index-left.result.now - 1) c.args.wires.now.graph.within g (omega (arith, f.bound)) f.below
    (λ k h. omega (arith, g.rise k (length c.args.self.now.starts.items - 1) (omega arith) (omega arith)))
    (f.out ∙ f.u)
    (subst (Goes (state_of c.args.self.now) (state_of c.go.new.self)) f.into c.in_ok-go.ensures.went)

pub returns-clause-under_way : goal.returns-clause-under_way
returns-clause-under_way c =
    let f = facts c in
    let wt = went c in
    let old = c.args.self.now.left.items in
    let l = c.go.new.self.left.items in
    let same : l ≡ old = ap (λ x. x.items) c.in_ok-go.ensures.left in
    let u = c.index-u.result.now in
    let k = c.index-2.result.now in
    let in_n : u < length l = omega (arith, ap length same, c.requires.under_way.lefts, c.requires.under_way.good.inside c.args.p f.below, f.u) in
    record {
      places = c.in_ok-go.ensures.places ∙ c.requires.under_way.places;
      lefts = length-set l u k ∙ (ap length same ∙ c.requires.under_way.lefts);
      good = pass (elements (graph_of c.args.wires.now)) (graph_of c.args.wires.now).wires (state_of c.go.new.self) (slice_index (set l u k)) u (c.index-left.result.now - 1) k wt.good (record {
        was = omega (arith, ap (λ x. slice_index x u) same, f.left);
        now = get_or-set_same l u k 0 in_n;
        else = λ v other. get_or-set_other l u v k 0 other;
        next = f.next;
      }) wt.is_met;
    }

pub returns-clause-seen : goal.returns-clause-seen
returns-clause-seen c = (went c).seen

pub returns-clause-less : goal.returns-clause-less
returns-clause-less c =
    let f = facts c in
    let old = c.args.self.now.left.items in
    let l = c.go.new.self.left.items in
    let same : l ≡ old = ap (λ x. x.items) c.in_ok-go.ensures.left in
    let u = c.index-u.result.now in
    let k = c.index-2.result.now in
    let in_n : u < length l = omega (arith, ap length same, c.requires.under_way.lefts, c.requires.under_way.good.inside c.args.p f.below, f.u) in
    omega (arith, sum_by-set (λ (x : ℕ). x) l u k 0 in_n, ap sum same, ap (λ x. slice_index x u) same, f.left, f.next.most, c.in_ok-go.ensures.starts, c.in_ok-go.ensures.todo)
