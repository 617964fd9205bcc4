use Rattle.plcx_numbered.proofs.Programs.{program_right, plans_low, programs_free}
use Rattle.plcx_numbered.proofs.Cells.{plans_apart}
use Rattle.plcx_numbered.proofs.laws.prepared_is_right.Goals as goal

pub returns : goal.returns
returns c = λ project program fits h. (program_right project fits program h, plans_low project fits, programs_free project fits, plans_apart project fits)
