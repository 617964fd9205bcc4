use Rattle.std.proofs.Common.{◌≡◌, ◌<◌, ℕ, slice_index, ◌∙◌, subst}
use Rattle.plcx_model.specs.Shown.{graph_of}
use Rattle.plcx_order.proofs.Spreads.{spread_start}
use Rattle.plcx_order.proofs.classes.start.Goals as goal

pub returns-clause-spread : goal.returns-clause-spread
returns-clause-spread c =
    let number = c.in_ok-zeros.field-0.items in
    spread_start (graph_of c.args.wires.now) number c.new-2.result.items (c.in_ok-zeros.ensures.count ∙ c.elements.ensures) (subst (λ n. (v : ℕ) → v < n → slice_index number v ≡ 0) c.elements.ensures c.in_ok-zeros.ensures.none) c.new-2.ensures.items
