use Rattle.plcx_text_runnable.proofs.Standing.{text_alike}
use Rattle.plcx_text_runnable.proofs.laws.texts_are_alike.Goals as goal

pub returns : goal.returns
returns c = λ unit program text ready whole k p there main. text_alike unit ready program text whole k p there main
