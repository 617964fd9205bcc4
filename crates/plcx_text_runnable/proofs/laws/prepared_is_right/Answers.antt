use Rattle.plcx_text_runnable.proofs.Programs.{text_right}
use Rattle.plcx_text_runnable.proofs.laws.prepared_is_right.Goals as goal

pub returns : goal.returns
returns c = λ unit program text ready whole. text_right unit ready program text whole
