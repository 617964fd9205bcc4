use Rattle.plcx_st.specs.Meant.{arg_meant}
use Rattle.plcx_text_lines.specs.Added.{Suits}
use Rattle.plcx_text_lines.proofs.Bringing.{each_of}
use Rattle.plcx_text_lines.proofs.Calling.{takes_more, takes_end}
use Rattle.plcx_text_lines.proofs.calls.all_taken.Goals as goal

pub loop-arg-preserved : goal.loop-arg-preserved
loop-arg-preserved g c =
    let names = (g.N.Numbers.numbers c.args.numbers.now).names in
    let i = c.args.instance.now in
    λ each. takes_more names i c.args.args.now c.loop-arg.arg-index c.arg-item.result c.loop-arg.all c.in_ok-next.next c.args.before c.loop-arg.stores.items c.in_ok-next.more.items _ c.loop-arg-test.true c.arg-item.is
    (c.in_ok-next.ensures (each_of (Suits names.scope i) arg_meant c.args.args.now c.loop-arg.arg-index c.arg-item.result each c.loop-arg-test.true c.arg-item.is)) (c.loop-arg.invariant each)

pub returns : goal.returns
returns g c =
    let names = (g.N.Numbers.numbers c.args.numbers.now).names in
    λ each. takes_end names c.args.instance.now c.args.args.now c.loop-arg.arg-index c.loop-arg.all c.args.before c.loop-arg.stores.items _ c.loop-arg-test.false (c.loop-arg.invariant each)
