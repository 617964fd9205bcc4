use Rattle.std.proofs.Common.{◌∙◌, sym, ap, Some}
use Rattle.plcx_names.proofs.FormalNames.{is_first, is_later}
use Rattle.plcx_names.proofs.formals.function_input.Goals as goal

pub returns-then-branch : goal.returns-then-branch
returns-then-branch c = ap Some c.class_at.ensures ∙ is_first c.args.func c.args.name.now c.args.count c.loop-place.place _ c.loop-place-test.true (sym c.in_ok-is_input.ensures ∙ c.if-branch.true) c.loop-place.invariant

pub loop-place-preserved : goal.loop-place-preserved
loop-place-preserved c = is_later c.args.func c.args.name.now c.args.count c.loop-place.place _ c.loop-place-test.true (sym c.in_ok-is_input.ensures ∙ c.if-branch.false) c.loop-place.invariant
