use Rattle.plcx_meaning.specs.Templates.{feed_text}
use Rattle.plcx_st.specs.InRange.{StatementInRange}
use Rattle.plcx_drawn.specs.Shown.{shown_port}
use Rattle.plcx_lower.proofs.Ranges.{each_index}
use Rattle.plcx_lower.proofs.body.Body.put_fed.Goals as goal

pub put_port-requires : goal.put_port-requires
put_port-requires c = each_index StatementInRange (feed_text c.args.id) shown_port c.args.fed.now c.loop-port.port-index _ c.loop-port-test.true c.requires
