use Rattle.std.proofs.Common.{Bool, cond, sym, ap, ◌∙◌}
use Rattle.plcx_known.specs.Sizes.{capped, type_weight}
use Rattle.plcx_known.proofs.sizes.weight.Goals as goal

pub returns-else-is_kept : goal.returns-else-is_kept
unfolding capped
returns-else-is_kept c = ap (λ (b : Bool). capped (cond b (type_weight c.args.depth c.args.sizes.now c.args.own.now.ty) 0)) (sym c.if-is_kept.false ∙ c.is_kept.ensures)
