use Rattle.std.proofs.Common.{◌∙◌, sym}
use Rattle.plcx_link.proofs.SideNames.{one_more}
use Rattle.plcx_link.proofs.formals.has_double.Goals as goal

pub returns-then-stands_behind : goal.returns-then-stands_behind
returns-then-stands_behind c =
    let step = one_more c.args.names.now c.loop-place.place in
    let twice = sym c.stands_behind.ensures ∙ c.if-stands_behind.true in
    sym (rw twice at step) ∙ c.loop-place.invariant

pub loop-place-preserved : goal.loop-place-preserved
loop-place-preserved c =
    let step = one_more c.args.names.now c.loop-place.place in
    let once = sym c.stands_behind.ensures ∙ c.if-stands_behind.false in
    sym (rw once at step) ∙ c.loop-place.invariant
