use Rattle.std.proofs.Common.{rules, ◌+◌, length, arith, sym, ◌∙◌}
use Rattle.std.proofs.lemmas.Result.{err_from_is_err_and}
use Rattle.plcx_read.specs.Reading as spec
use Rattle.plcx_read.proofs.Turns.{parted_turn, parted_fails, parted_open, parted_ends, climb_turn, climb_fails}
use Rattle.plcx_read.proofs.expression.+expr.Goals as goal

pub arguments-loop-turn-preserved : goal.arguments-loop-turn-preserved
arguments-loop-turn-preserved t c =
    let turn = parted_turn (spec.expr c.args.allowance 0) (length c.args.tokens.now + 1) c.loop-turn._turn c.loop-turn.found.items c.loop-turn.depth c.loop-turn.rest c.in_ok-x.x c.in_ok-x.at c.in_ok-x.after (omega arith) c.in_ok-x.ensures.gives (sym c.sees.ensures ∙ c.if-sees.true) in
    (rw (c.in_ok-push.ensures.items, c.max-depth.ensures, c.behind-rest.ensures) (sym turn ∙ c.loop-turn.invariant.0), omega (arith, c.in_ok-x.ensures.within))

pub climb-returns-in_err-right-clause-gives : goal.climb-returns-in_err-right-clause-gives
climb-returns-in_err-right-clause-gives t c =
    let p = err_from_is_err_and c.from_residual.result c.from_residual.ensures.1 in
    rw (p.1, p.2, ← c.loop-turn.invariant.0) (climb_fails c.args.allowance (spec.expr c.args.allowance) (c.args.allowance + 1) c.loop-turn._turn c.args.least c.loop-turn.left c.loop-turn.depth c.loop-turn.rest c.in-Some.op c.args.end c.in_err-right.field-0.0 (omega arith) (search rules) (omega arith) (rw (← c.level.ensures.value, ← c.behind.ensures) c.in_err-right.ensures.gives))

pub climb-loop-turn-preserved : goal.climb-loop-turn-preserved
climb-loop-turn-preserved t c =
    let turn = climb_turn c.args.allowance (spec.expr c.args.allowance) (c.args.allowance + 1) c.loop-turn._turn c.args.least c.loop-turn.left c.loop-turn.depth c.loop-turn.rest c.in-Some.op c.in_ok-right.right c.in_ok-right.at c.in_ok-right.after (omega arith) (search rules) (omega arith) (rw (← c.level.ensures.value, ← c.behind.ensures) c.in_ok-right.ensures.gives) in
    (rw (c.in_ok-left.ensures, c.max-depth.ensures) (sym turn ∙ c.loop-turn.invariant.0), omega (arith, c.in_ok-right.ensures.within))

pub arguments-returns-in_err-x-clause-gives : goal.arguments-returns-in_err-x-clause-gives
arguments-returns-in_err-x-clause-gives t c =
    let p = err_from_is_err_and c.from_residual-in_err-x.result c.from_residual-in_err-x.ensures.1 in
    rw (p.1, p.2, ← c.loop-turn.invariant.0)
    (parted_fails (spec.expr c.args.allowance 0) (length c.args.tokens.now + 1) c.loop-turn._turn c.loop-turn.found.items c.loop-turn.depth c.loop-turn.rest c.args.end c.in_err-x.field-0.0 (omega arith) c.in_err-x.ensures.gives)

pub arguments-returns-in_err-after-clause-gives : goal.arguments-returns-in_err-after-clause-gives
arguments-returns-in_err-after-clause-gives t c =
    let p = err_from_is_err_and c.from_residual-in_err-after.result c.from_residual-in_err-after.ensures.1 in
    rw (p.1, p.2, ← c.loop-turn.invariant.0)
    (parted_open (spec.expr c.args.allowance 0) (length c.args.tokens.now + 1) c.loop-turn._turn c.loop-turn.found.items c.loop-turn.depth c.loop-turn.rest c.in_ok-x.x c.in_ok-x.at c.in_ok-x.after c.args.end c.in_err-after.field-0.0 (omega arith) c.in_ok-x.ensures.gives (sym c.sees.ensures ∙ c.if-sees.false) c.in_err-after.ensures)

pub arguments-returns-else-sees-clause-gives : goal.arguments-returns-else-sees-clause-gives
arguments-returns-else-sees-clause-gives t c =
    rw (c.listed.ensures, c.in_ok-push.ensures.items, c.max-depth.ensures, ← c.loop-turn.invariant.0)
    (parted_ends (spec.expr c.args.allowance 0) (length c.args.tokens.now + 1) c.loop-turn._turn c.loop-turn.found.items c.loop-turn.depth c.loop-turn.rest c.in_ok-x.x c.in_ok-x.at c.in_ok-x.after c.in_ok-after.after (omega arith) c.in_ok-x.ensures.gives (sym c.sees.ensures ∙ c.if-sees.false) c.in_ok-after.ensures)
