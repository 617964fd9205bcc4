use Rattle.std.proofs.Common.{◌∙◌}
use Rattle.plcx_cover.proofs.Lines.{got, more}
use Rattle.plcx_cover.proofs.printing.push_lines.Goals as goal

pub loop-place-preserved : goal.loop-place-preserved
loop-place-preserved c =
    more c.args.wires.now c.args.rows.now c.loop-place.place _ c.loop-place.text.items c.push_line_if.new.text.items _ c.loop-place-test.true c.in_ok-push_line_if.ensures
    (got c.args.rows.now c.loop-place.place c.get.result c.get.ensures.lookup)
    ∙ c.loop-place.invariant
