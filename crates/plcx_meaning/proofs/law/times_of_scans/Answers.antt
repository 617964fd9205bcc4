use Rattle.plcx_meaning.proofs.Times.{time_of_scan}
use Rattle.plcx_meaning.proofs.law.times_of_scans.Goals as goal

pub returns-clause-diagram : goal.returns-clause-diagram
returns-clause-diagram c = time_of_scan

pub returns-clause-text : goal.returns-clause-text
returns-clause-text c = time_of_scan
