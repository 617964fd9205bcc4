use Rattle.std.proofs.Common.{◌+◌, length, arith, sym, ◌∙◌}
use Rattle.std.proofs.lemmas.Result.{err_from_is_err_and}
use Rattle.plcx_read.specs.Reading as spec
use Rattle.plcx_read.proofs.Turns.{several_turn, several_fails}
use Rattle.plcx_read.proofs.declaration.blocks.Goals as goal

pub loop-turn-preserved : goal.loop-turn-preserved
loop-turn-preserved c =
    let turn = several_turn spec.block spec.begins_block (length c.args.tokens.now + 1) c.loop-turn._turn c.loop-turn.found.items 0 c.loop-turn.rest c.in_ok-x.x 0 c.in_ok-x.after (omega arith) (rw (← c.next.ensures) (sym c.begins_block.ensures ∙ c.if-not-begins_block.false)) c.in_ok-x.ensures in
    rw (c.in_ok-push.ensures.items) (sym turn ∙ c.loop-turn.invariant)

pub returns-in_err-x : goal.returns-in_err-x
returns-in_err-x c =
    let p = err_from_is_err_and c.from_residual.result c.from_residual.ensures.1 in
    rw (p.1, p.2, ← c.loop-turn.invariant)
    (several_fails spec.block spec.begins_block (length c.args.tokens.now + 1) c.loop-turn._turn c.loop-turn.found.items 0 c.loop-turn.rest c.args.end c.in_err-x.field-0.0 (omega arith) (rw (← c.next.ensures) (sym c.begins_block.ensures ∙ c.if-not-begins_block.false)) c.in_err-x.ensures)
