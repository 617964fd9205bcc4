use Rattle.std.proofs.Common.{◌<◌, ◌∙◌, true≢false, length, sym, arith}
use Rattle.plcx_state.proofs.Paths.{lowered_at}
use Rattle.plcx_state.proofs.path.are_same.Goals as goal

pub returns-then-not-is_same_name : goal.returns-then-not-is_same_name
returns-then-not-is_same_name c =
    let in_left : c.loop-i.i < length c.args.left.now = omega arith in
    let in_right : c.loop-i.i < length c.args.right.now = omega arith in
    ((λ h. cc), (λ e. absurd (true≢false (sym (c.is_same_name.ensures.1 (lowered_at c.args.left.now c.args.right.now c.loop-i.i _ _ in_left in_right c.index-left-i.is c.index-right-i.is e)) ∙ c.if-not-is_same_name.true))))
