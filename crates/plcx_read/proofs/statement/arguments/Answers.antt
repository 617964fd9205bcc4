use Rattle.std.proofs.Common.{◌+◌, length, arith, sym, ◌∙◌}
use Rattle.std.proofs.lemmas.Result.{err_from_is_err_and}
use Rattle.plcx_read.specs.Reading as spec
use Rattle.plcx_read.proofs.Turns.{parted_turn, parted_fails, parted_open, parted_ends}
use Rattle.plcx_read.proofs.statement.arguments.Goals as goal

pub loop-turn-preserved : goal.loop-turn-preserved
loop-turn-preserved c =
    let turn = parted_turn (spec.argument c.args.allowance) (length c.args.tokens.now + 1) c.loop-turn._turn c.loop-turn.found.items c.loop-turn.depth c.loop-turn.rest c.in_ok-x.x c.in_ok-x.at c.in_ok-x.after (omega arith) c.in_ok-x.ensures.gives (sym c.sees.ensures ∙ c.if-sees.true) in
    (rw (c.in_ok-push.ensures.items, c.max-depth.ensures, c.behind-rest.ensures) (sym turn ∙ c.loop-turn.invariant.0), omega (arith, c.in_ok-x.ensures.within))

pub returns-in_err-x-clause-gives : goal.returns-in_err-x-clause-gives
returns-in_err-x-clause-gives c =
    let p = err_from_is_err_and c.from_residual-in_err-x.result c.from_residual-in_err-x.ensures.1 in
    rw (p.1, p.2, ← c.loop-turn.invariant.0)
    (parted_fails (spec.argument c.args.allowance) (length c.args.tokens.now + 1) c.loop-turn._turn c.loop-turn.found.items c.loop-turn.depth c.loop-turn.rest c.args.end c.in_err-x.field-0.0 (omega arith) c.in_err-x.ensures.gives)

pub returns-in_err-after-clause-gives : goal.returns-in_err-after-clause-gives
returns-in_err-after-clause-gives c =
    let p = err_from_is_err_and c.from_residual-in_err-after.result c.from_residual-in_err-after.ensures.1 in
    rw (p.1, p.2, ← c.loop-turn.invariant.0)
    (parted_open (spec.argument c.args.allowance) (length c.args.tokens.now + 1) c.loop-turn._turn c.loop-turn.found.items c.loop-turn.depth c.loop-turn.rest c.in_ok-x.x c.in_ok-x.at c.in_ok-x.after c.args.end c.in_err-after.field-0.0 (omega arith) c.in_ok-x.ensures.gives (sym c.sees.ensures ∙ c.if-sees.false) c.in_err-after.ensures)

pub returns-else-sees-clause-gives : goal.returns-else-sees-clause-gives
returns-else-sees-clause-gives c =
    rw (c.listed.ensures, c.in_ok-push.ensures.items, c.max-depth.ensures, ← c.loop-turn.invariant.0)
    (parted_ends (spec.argument c.args.allowance) (length c.args.tokens.now + 1) c.loop-turn._turn c.loop-turn.found.items c.loop-turn.depth c.loop-turn.rest c.in_ok-x.x c.in_ok-x.at c.in_ok-x.after c.in_ok-after.after (omega arith) c.in_ok-x.ensures.gives (sym c.sees.ensures ∙ c.if-sees.false) c.in_ok-after.ensures)
