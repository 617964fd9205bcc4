use Rattle.plcx_meaning.proofs.Events.{all_behave, all_agree}
use Rattle.plcx_meaning.proofs.Traced.{all_traced, all_started}
use Rattle.plcx_meaning.proofs.law.same_behavior.Goals as goal

pub returns-clause-behaves : goal.returns-clause-behaves
returns-clause-behaves c = all_behave

pub returns-clause-agrees : goal.returns-clause-agrees
returns-clause-agrees c = all_agree

pub returns-clause-traces : goal.returns-clause-traces
returns-clause-traces c = all_traced

pub returns-clause-starts : goal.returns-clause-starts
returns-clause-starts c = all_started
