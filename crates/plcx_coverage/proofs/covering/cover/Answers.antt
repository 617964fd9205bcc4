use Rattle.plcx_coverage.proofs.Counted.{covered}
use Rattle.plcx_coverage.proofs.covering.cover.Goals as goal

pub returns-clause-ok : goal.returns-clause-ok
returns-clause-ok g c = covered _ _ _ _ _ _ _ c.counts_grow.ensures c.in_ok-cover.ensures c.in_ok-simulate.ensures.heard c.in_ok-cover_text.ensures
