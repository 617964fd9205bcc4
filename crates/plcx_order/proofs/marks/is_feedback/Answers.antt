use Rattle.std.proofs.Common.{◌≡◌, ◌↔◌, ℕ, true, false, nat_eq, subst, arith}
use Rattle.std.specs.Ordering.{is_gt}
use Rattle.std.proofs.lemmas.Bool.Decides.{nat_tests}
use Rattle.plcx_model.specs.Keys.{key_cmp}
use Rattle.plcx_model.specs.Graph.{KeyAtMost, key_at}
use Rattle.plcx_model.specs.Shown.{graph_of}
use Rattle.plcx_order.proofs.MarkSteps.{goes_back}
use Rattle.plcx_order.proofs.marks.is_feedback.Goals as goal

equal : (m n : ℕ) → nat_eq m n ≡ true → m ≡ n
equal m n h = grind (arith, nat_tests)

pub returns-then-component : goal.returns-then-component
returns-then-component c =
    let u = c.args.from in
    let v = c.args.to in
    let both = goes_back (graph_of c.args.wires.now) c.args.places.now u v c.component.result c.component-2.result c.requires.places c.requires.wire c.requires.from c.requires.to c.component.ensures c.component-2.ensures in
    let key : (c.is_at_most.result ≡ true) ↔ KeyAtMost (graph_of c.args.wires.now) v u = subst (λ k. (c.is_at_most.result ≡ true) ↔ (is_gt (key_cmp k (key_at (graph_of c.args.wires.now) u)) ≡ false)) c.key.ensures (subst (λ k. (c.is_at_most.result ≡ true) ↔ (is_gt (key_cmp c.key.result k) ≡ false)) c.key-then-component.ensures c.is_at_most.ensures) in
    (λ h. record { back = both.0 c.if-component.true; key = key.0 h }, λ f. key.1 f.key)

pub returns-else-component : goal.returns-else-component
returns-else-component c =
    let u = c.args.from in
    let v = c.args.to in
    let both = goes_back (graph_of c.args.wires.now) c.args.places.now u v c.component.result c.component-2.result c.requires.places c.requires.wire c.requires.from c.requires.to c.component.ensures c.component-2.ensures in
    (λ h. absurd (c.if-component.false (equal c.component.result c.component-2.result h)), λ f. absurd (c.if-component.false (both.1 f.back)))
