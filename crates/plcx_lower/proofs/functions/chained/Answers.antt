use Rattle.plcx_st.specs.Meant.{op_meant}
use Rattle.plcx_lower.proofs.Inputs.{chained_parts}
use Rattle.plcx_lower.proofs.functions.chained.Goals as goal

pub link_value-requires : goal.link_value-requires
link_value-requires c = (chained_parts (op_meant c.args.op) c.args.inputs.now c.first-item.result c.in-len1-up.len_at_least c.first-item.is c.requires).0

pub folded-requires : goal.folded-requires
folded-requires c = (chained_parts (op_meant c.args.op) c.args.inputs.now c.first-item.result c.in-len1-up.len_at_least c.first-item.is c.requires).1
