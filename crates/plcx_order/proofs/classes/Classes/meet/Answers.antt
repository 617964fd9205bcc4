use Rattle.std.proofs.Common.{◌≡◌, ◌<◌, ◌≤◌, length, set, slice_index, inl, refl, sym, ◌∙◌, subst, arith}
use Rattle.std.proofs.lemmas.List.{get_or_read}
use Rattle.plcx_model.specs.Graph.{elements}
use Rattle.plcx_model.specs.Shown.{graph_of}
use Rattle.plcx_order.specs.Classes.{IsSpread, Spreading, left_to_do}
use Rattle.plcx_order.proofs.InNetwork.{part_within}
use Rattle.plcx_order.proofs.Spreads.{meet_new, meet_old, less_unseen}
use Rattle.plcx_order.proofs.classes.Classes.meet.Goals as goal

pub returns-then-index-ne0-clause-met : goal.returns-then-index-ne0-clause-met
returns-then-index-ne0-clause-met c =
    let g = graph_of c.args.wires.now in
    let number = c.args.self.now.number.items in
    let s = c.requires.spread in
    let within : c.args.v < length number = omega (arith, s.count, part_within g c.args.v c.args.wires.now.graph c.requires.link.second) in
    let read : c.index.result.now ≡ slice_index number c.args.v = get_or_read number c.args.v c.index.result.now within c.index.ensures 0 in
    meet_old g number c.args.self.now.todo.items c.args.self.now.firsts.items c.args.u c.args.v s c.requires.link (λ e. c.if-index-ne0.true (read ∙ e))

pub returns-clause-spread : goal.returns-clause-spread
returns-clause-spread c =
    let g = graph_of c.args.wires.now in
    let number = c.args.self.now.number.items in
    let firsts = c.args.self.now.firsts.items in
    let v = c.args.v in
    let s = c.requires.spread in
    let within : v < length number = omega (arith, s.count, part_within g v c.args.wires.now.graph c.requires.link.second) in
    let read : c.index.result.now ≡ slice_index number v = get_or_read number v c.index.result.now within c.index.ensures 0 in
    let count : c.len.result ≡ length firsts = omega (arith, c.len.ensures, c.args.self.now.firsts.ok.0) in
    subst (λ k. IsSpread g (set number v k) (Spreading c.args.u c.push.new.self.items) firsts) (sym count)
    (subst (λ xs. IsSpread g (set number v (length firsts)) (Spreading c.args.u xs) firsts) (sym c.in_ok-push.ensures.items) (meet_new g number c.args.self.now.todo.items firsts c.args.u v c.args.wires.now.graph s c.requires.link (sym read ∙ c.if-index-ne0.false)))

pub returns-clause-less : goal.returns-clause-less
returns-clause-less c =
    let g = graph_of c.args.wires.now in
    let n = elements g in
    let number = c.args.self.now.number.items in
    let todo = c.args.self.now.todo.items in
    let v = c.args.v in
    let s = c.requires.spread in
    let element = part_within g v c.args.wires.now.graph c.requires.link.second in
    let within : v < length number = omega (arith, s.count, element) in
    let read : c.index.result.now ≡ slice_index number v = get_or_read number v c.index.result.now within c.index.ensures 0 in
    let some : 0 < c.len.result = omega (arith, c.len.ensures, c.args.self.now.firsts.ok.0, (s.current c.args.u (inl refl)).2) in
    subst (λ xs. left_to_do n (set number v c.len.result) xs ≤ left_to_do n number todo) (sym c.in_ok-push.ensures.items) (less_unseen n number todo v c.len.result element (sym s.count) some (sym read ∙ c.if-index-ne0.false))
