use Rattle.std.proofs.Common.{map}
use Rattle.plcx_meaning.specs.Templates.{kind_text, feed_text}
use Rattle.plcx_st.specs.InRange.{StatementInRange}
use Rattle.plcx_drawn.specs.Shown.{shown_kind, shown_port}
use Rattle.plcx_lower.proofs.Ranges.{each_parts}
use Rattle.plcx_lower.proofs.body.Body.put_element.Goals as goal

pub put_kind-requires : goal.put_kind-requires
put_kind-requires c = (each_parts StatementInRange (kind_text (shown_kind c.args.element.now.kind) c.args.element.now.id) (map (feed_text c.args.element.now.id) (map shown_port c.args.element.now.fed)) c.requires).0

pub put_fed-requires : goal.put_fed-requires
put_fed-requires c =
    rw c.as_slice.ensures (each_parts StatementInRange (kind_text (shown_kind c.args.element.now.kind) c.args.element.now.id) (map (feed_text c.args.element.now.id) (map shown_port c.args.element.now.fed)) c.requires).1
