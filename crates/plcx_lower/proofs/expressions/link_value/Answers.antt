use Rattle.plcx_drawn.specs.Shown.{shown_link}
use Rattle.plcx_lower.proofs.Ranges.{link_parts}
use Rattle.plcx_lower.proofs.expressions.link_value.Goals as goal

pub source_value-requires : goal.source_value-requires
source_value-requires c = (link_parts (shown_link c.args.link.now) c.requires).0

pub joined-requires : goal.joined-requires
joined-requires c = rw c.as_slice.ensures (link_parts (shown_link c.args.link.now) c.requires).1
