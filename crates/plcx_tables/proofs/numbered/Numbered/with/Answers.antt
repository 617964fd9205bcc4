use Rattle.plcx_tables.proofs.Growing.{passed}
use Rattle.plcx_tables.proofs.numbered.Numbered.with.Goals as goal

pub returns-in-None-clause-numbers : goal.returns-in-None-clause-numbers
returns-in-None-clause-numbers g c = rw c.in-None.is (passed g.K.PartialEq.eq c.args.self.count c.args.self.numbers.entries)
