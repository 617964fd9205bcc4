use Rattle.plcx_ticked.specs.Files.{long}
use Rattle.plcx_ticked.proofs.ticking.ticked.Goals as goal

pub returns-in-Err-TooLong-clause-err : goal.returns-in-Err-TooLong-clause-err
returns-in-Err-TooLong-clause-err g c = long ((rw c.in-Err-TooLong.field-0-is at c.in-Err-TooLong.ensures.fails).1)
