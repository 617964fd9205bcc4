use Rattle.std.proofs.lemmas.Result.{IfOk-weaker}
use Rattle.plcx_st.specs.Meant.{meant}
use Rattle.plcx_view.specs.Diagrams.{diagrams_of}
use Rattle.plcx_command.proofs.Composed.{text_made}
use Rattle.plcx_command.proofs.judging.text_of.Goals as goal

pub returns : goal.returns
returns c =
    let p = c.args.checked.now in
    let unit = c.in_ok-unit.ensures in
    IfOk-weaker c.print.result _ _ (λ text e. text_made c.one_unit.ensures c.read_again.ensures
    (diagrams_of p.project p.links p.types p.plan) (meant c.in_ok-unit.unit) text.items unit.unit (unit.in_range c.requires) (unit.fits c.requires) (unit.ready c.requires) (unit.behaves c.requires) e) c.print.ensures.printed
