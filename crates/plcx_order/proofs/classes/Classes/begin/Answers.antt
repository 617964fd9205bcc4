use Rattle.std.proofs.Common.{◌≡◌, ◌+◌, ◌++◌, ◌∷◌, [], length, set, sym, ◌∙◌, ap, subst, arith}
use Rattle.std.proofs.lemmas.List.{length_push}
use Rattle.plcx_model.specs.Shown.{graph_of}
use Rattle.plcx_model.specs.Networks.{Listed}
use Rattle.plcx_order.specs.Classes.{IsSpread}
use Rattle.plcx_order.proofs.Spreads.{begin}
use Rattle.plcx_order.proofs.classes.Classes.begin.Goals as goal

pub returns-clause-spread : goal.returns-clause-spread
returns-clause-spread c =
    let g = graph_of c.args.wires.now in
    let number = c.args.self.now.number.items in
    let firsts = c.args.self.now.firsts.items in
    let root = c.args.root in
    let pushed = c.in_ok-push.ensures.items in
    let todo : c.push-2.new.self.items ≡ root ∷ [] = c.in_ok-push-2.ensures.items ∙ ap (λ xs. xs ++ root ∷ []) c.requires.empty in
    let count : c.len.result ≡ length firsts + 1 = omega (arith, c.len.ensures, c.push.new.self.ok.0, ap length pushed, length_push firsts root) in
    subst (λ k. IsSpread g (set number root k) (Listed c.push-2.new.self.items) c.push.new.self.items) (sym count)
    (subst (λ xs. IsSpread g (set number root (length firsts + 1)) (Listed xs) c.push.new.self.items) (sym todo)
    (subst (λ xs. IsSpread g (set number root (length firsts + 1)) (Listed (root ∷ [])) xs) (sym pushed) (begin g number firsts root c.args.wires.now.graph c.requires.spread c.requires.part c.requires.unseen c.requires.least)))
