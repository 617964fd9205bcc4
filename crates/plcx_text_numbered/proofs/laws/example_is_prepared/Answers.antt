use Rattle.plcx_text_numbered.proofs.Prepared.{example_is}
use Rattle.plcx_text_numbered.proofs.laws.example_is_prepared.Goals as goal

pub returns : goal.returns
returns c = λ program text h. example_is program text h
