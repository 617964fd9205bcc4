use Rattle.plcx_text_numbered.proofs.Values.{computes}
use Rattle.plcx_text_numbered.proofs.laws.expressions_are_alike.Goals as goal

pub returns : goal.returns
returns c = λ whole plan num site sections text here g f n ws stands e t typed right first wire has le room. computes whole plan num site sections text here g f n stands.lies stands.in_outs stands.agrees e t typed right first wire ws has le room stands.frame
