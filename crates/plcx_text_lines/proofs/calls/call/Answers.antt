use Rattle.std.proofs.Common.{map}
use Rattle.plcx_st.specs.Meant.{arg_meant}
use Rattle.plcx_text_lines.specs.Shown.{shown_callee}
use Rattle.plcx_text_lines.proofs.Calling.{calls}
use Rattle.plcx_text_lines.proofs.calls.call.Goals as goal

pub returns : goal.returns
returns g c =
    let n = g.N.Numbers.numbers c.args.numbers.now in
    let taken = rw c.text-name.ensures.text at c.in_ok-taken.ensures in
    let stored = rw c.deref.ensures.value at c.in_ok-stored.ensures in
    let callee = rw c.text-name.ensures.text at c.in_ok-callee.ensures in
    λ each. calls n c.args.instance.now.name (map arg_meant c.args.args.now) c.args.before c.in_ok-taken.taken c.in_ok-stored.stored c.in_ok-run.field-0 c.in_ok-taken.stores.items (shown_callee c.in_ok-callee.callee)
    (taken each) stored callee c.in_ok-run.ensures
