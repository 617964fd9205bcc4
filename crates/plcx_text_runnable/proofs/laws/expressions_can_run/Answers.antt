use Rattle.plcx_text_numbered.specs.Prepared.{source_of}
use Rattle.plcx_text_runnable.proofs.Expressions.{source_within, value_good}
use Rattle.plcx_text_runnable.proofs.laws.expressions_can_run.Goals as goal

pub returns : goal.returns
returns c = λ program body shape wires num is_shape numbers e t typed first wire begins has room.
    let r = value_good program body shape wires num is_shape numbers e t typed first wire (record { begins = begins; has = has }) room in
    (r.0, r.1, source_within program body shape wires num is_shape numbers (source_of num wire e) t r.1)
