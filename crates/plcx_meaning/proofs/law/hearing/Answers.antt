use Rattle.plcx_meaning.proofs.HeardBefore.{program_earlier, blocks_earlier, elements_law}
use Rattle.plcx_meaning.proofs.law.hearing.Goals as goal

pub returns-clause-program : goal.returns-clause-program
returns-clause-program c = λ time project p hs d. program_earlier hs time project p d

pub returns-clause-blocks : goal.returns-clause-blocks
returns-clause-blocks c = λ n time project type site hs d. blocks_earlier hs n time project type site d

pub returns-clause-elements : goal.returns-clause-elements
returns-clause-elements c = elements_law
