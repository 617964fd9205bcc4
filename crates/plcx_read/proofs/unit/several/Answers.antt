use Rattle.std.proofs.Common.{◌+◌, length, arith, sym, ◌∙◌}
use Rattle.std.proofs.lemmas.Result.{err_from_is_err_and}
use Rattle.plcx_read.specs.Reading as spec
use Rattle.plcx_read.proofs.Turns.{several_turn, several_fails, several_ends}
use Rattle.plcx_read.proofs.unit.several.Goals as goal

pub loop-turn-preserved : goal.loop-turn-preserved
loop-turn-preserved c =
    let turn = several_turn (spec.pou c.args.allowance) spec.begins_pou (length c.args.tokens.now + 1) c.loop-turn._turn c.loop-turn.found.items c.loop-turn.depth c.loop-turn.rest c.in_ok-x.x c.in_ok-x.at c.in_ok-x.after (omega arith) (rw (← c.next.ensures) (sym c.begins_pou.ensures ∙ c.if-not-begins_pou.false)) c.in_ok-x.ensures.gives in
    (rw (c.in_ok-push.ensures.items, c.max-depth.ensures) (sym turn ∙ c.loop-turn.invariant.0), omega (arith, c.in_ok-x.ensures.within))

pub returns-in_err-x-clause-gives : goal.returns-in_err-x-clause-gives
returns-in_err-x-clause-gives c =
    let p = err_from_is_err_and c.from_residual.result c.from_residual.ensures.1 in
    rw (p.1, p.2, ← c.loop-turn.invariant.0)
    (several_fails (spec.pou c.args.allowance) spec.begins_pou (length c.args.tokens.now + 1) c.loop-turn._turn c.loop-turn.found.items c.loop-turn.depth c.loop-turn.rest c.args.end c.in_err-x.field-0.0 (omega arith) (rw (← c.next.ensures) (sym c.begins_pou.ensures ∙ c.if-not-begins_pou.false)) c.in_err-x.ensures.gives)

pub returns-then-not-begins_pou-clause-gives : goal.returns-then-not-begins_pou-clause-gives
returns-then-not-begins_pou-clause-gives c =
    rw (c.listed.ensures, ← c.loop-turn.invariant.0)
    (several_ends (spec.pou c.args.allowance) spec.begins_pou (length c.args.tokens.now + 1) c.loop-turn._turn c.loop-turn.found.items c.loop-turn.depth c.loop-turn.rest (omega arith) (rw (← c.next.ensures) (sym c.begins_pou.ensures ∙ c.if-not-begins_pou.true)))
