use Rattle.std.proofs.Common.{◌-◌, sym, ap, ◌∙◌}
use Rattle.std.specs.Cmp.Lexicographic.{bytes_decides}
use Rattle.plcx_tables.specs.Levels.{stepped}
use Rattle.plcx_tables.proofs.Repeating.{stays, once_more}
use Rattle.plcx_tables.proofs.levels.steps.Goals as goal

pub returns-then-eq : goal.returns-then-eq
returns-then-eq c =
    let f = stepped c.args.rule c.args.owns.now in
    let last = c.loop-round.last.items in
    let same = sym c.as_slice.ensures.value ∙ (bytes_decides c.as_slice.result.now c.as_slice-in-loop-round.result.now).0 (sym c.eq.ensures ∙ c.if-eq.true) ∙ c.as_slice-in-loop-round.ensures.value in
    sym (stays f (c.args.count - c.loop-round._round) last (sym (c.in_ok-next.ensures ∙ ap f c.deref.ensures.value) ∙ same)) ∙ c.loop-round.invariant

pub loop-round-preserved : goal.loop-round-preserved
loop-round-preserved c =
    let f = stepped c.args.rule c.args.owns.now in
    once_more f c.args.count c.loop-round._round c.loop-round.last.items c.in_ok-next.next.items _ c.loop-round-test.true (c.in_ok-next.ensures ∙ ap f c.deref.ensures.value) c.loop-round.invariant
