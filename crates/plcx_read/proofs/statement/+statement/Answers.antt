use Rattle.std.proofs.Common.{◌+◌, length, arith, sym, ◌∙◌}
use Rattle.std.proofs.lemmas.Result.{err_from_is_err_and}
use Rattle.plcx_read.specs.Reading as spec
use Rattle.plcx_read.proofs.Turns.{several_turn, several_fails}
use Rattle.plcx_read.proofs.statement.+statement.Goals as goal

pub arms-loop-turn-preserved : goal.arms-loop-turn-preserved
arms-loop-turn-preserved t c =
    let turn = several_turn (spec.arm (spec.statements c.args.allowance)) spec.is_digits (length c.args.tokens.now + 1) c.loop-turn._turn c.loop-turn.found.items c.loop-turn.depth c.loop-turn.rest c.in_ok-x.x c.in_ok-x.at c.in_ok-x.after (omega arith) (rw (← c.next.ensures) (sym c.begins_arm.ensures ∙ c.if-not-begins_arm.false)) c.in_ok-x.ensures.gives in
    (rw (c.in_ok-push.ensures.items, c.max-depth.ensures) (sym turn ∙ c.loop-turn.invariant.0), omega (arith, c.in_ok-x.ensures.within))

pub statements-loop-turn-preserved : goal.statements-loop-turn-preserved
statements-loop-turn-preserved t c =
    let turn = several_turn (spec.statement c.args.allowance) spec.begins_stmt (length c.args.tokens.now + 1) c.loop-turn._turn c.loop-turn.found.items c.loop-turn.depth c.loop-turn.rest c.in_ok-x.x c.in_ok-x.at c.in_ok-x.after (omega arith) (rw (← c.next.ensures) (sym c.begins_stmt.ensures ∙ c.if-not-begins_stmt.false)) c.in_ok-x.ensures.gives in
    (rw (c.in_ok-push.ensures.items, c.max-depth.ensures) (sym turn ∙ c.loop-turn.invariant.0), omega (arith, c.in_ok-x.ensures.within))

pub arms-returns-in_err-x-clause-gives : goal.arms-returns-in_err-x-clause-gives
arms-returns-in_err-x-clause-gives t c =
    let p = err_from_is_err_and c.from_residual.result c.from_residual.ensures.1 in
    rw (p.1, p.2, ← c.loop-turn.invariant.0)
    (several_fails (spec.arm (spec.statements c.args.allowance)) spec.is_digits (length c.args.tokens.now + 1) c.loop-turn._turn c.loop-turn.found.items c.loop-turn.depth c.loop-turn.rest c.args.end c.in_err-x.field-0.0 (omega arith) (rw (← c.next.ensures) (sym c.begins_arm.ensures ∙ c.if-not-begins_arm.false)) c.in_err-x.ensures.gives)

pub statements-returns-in_err-x-clause-gives : goal.statements-returns-in_err-x-clause-gives
statements-returns-in_err-x-clause-gives t c =
    let p = err_from_is_err_and c.from_residual.result c.from_residual.ensures.1 in
    rw (p.1, p.2, ← c.loop-turn.invariant.0)
    (several_fails (spec.statement c.args.allowance) spec.begins_stmt (length c.args.tokens.now + 1) c.loop-turn._turn c.loop-turn.found.items c.loop-turn.depth c.loop-turn.rest c.args.end c.in_err-x.field-0.0 (omega arith) (rw (← c.next.ensures) (sym c.begins_stmt.ensures ∙ c.if-not-begins_stmt.false)) c.in_err-x.ensures.gives)
