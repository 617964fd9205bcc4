use Rattle.std.proofs.lemmas.List.{take_rest}
use Rattle.plcx_st.specs.Meant.{op_meant}
use Rattle.plcx_lower.proofs.Inputs.{neighbour_parts}
use Rattle.plcx_lower.proofs.Steps.{first_two}
use Rattle.plcx_lower.proofs.functions.neighbours.Goals as goal

pub comparison-requires-clause-left : goal.comparison-requires-clause-left
comparison-requires-clause-left c = (neighbour_parts (op_meant c.args.op) c.args.inputs.now c.first-item.result c.second-item.result c.in-len2-up.len_at_least c.first-item.is c.second-item.is c.requires).0

pub comparison-requires-clause-right : goal.comparison-requires-clause-right
comparison-requires-clause-right c = (neighbour_parts (op_meant c.args.op) c.args.inputs.now c.first-item.result c.second-item.result c.in-len2-up.len_at_least c.first-item.is c.second-item.is c.requires).1

pub compared-requires-clause-before : goal.compared-requires-clause-before
compared-requires-clause-before c = (neighbour_parts (op_meant c.args.op) c.args.inputs.now c.first-item.result c.second-item.result c.in-len2-up.len_at_least c.first-item.is c.second-item.is c.requires).1

pub compared-requires-clause-inputs : goal.compared-requires-clause-inputs
compared-requires-clause-inputs c = (neighbour_parts (op_meant c.args.op) c.args.inputs.now c.first-item.result c.second-item.result c.in-len2-up.len_at_least c.first-item.is c.second-item.is c.requires).2

pub returns-in_ok-value-in-len2-up : goal.returns-in_ok-value-in-len2-up
returns-in_ok-value-in-len2-up c =
    let inputs = first_two c.args.inputs.now c.first-item.result c.second-item.result c.in-len2-up.len_at_least c.first-item.is c.second-item.is in
    rw inputs (rw (c.in_ok-value-in-len2-up.ensures, take_rest c.args.inputs.now 2) at c.compared.ensures)
