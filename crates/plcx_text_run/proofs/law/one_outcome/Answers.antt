use Rattle.plcx_text_run.proofs.OneOutcome.{same, broken_alone, missing_only}
use Rattle.plcx_text_run.proofs.law.one_outcome.Goals as goal

pub returns-clause-one : goal.returns-clause-one
returns-clause-one c = λ told r bytes is all x y nx ny h k.
    let v = c.one_text_verdict.ensures in
    let o = c.one_outcome.ensures in
    same v.unit v.broken v.apart o.one o.missing told r bytes is all x y nx ny h k

pub returns-clause-broken : goal.returns-clause-broken
returns-clause-broken c = λ told r bytes is b h x nx k.
    let v = c.one_text_verdict.ensures in
    let o = c.one_outcome.ensures in
    broken_alone v.unit v.broken v.apart o.one o.missing told r bytes is b h x nx k

pub returns-clause-missing : goal.returns-clause-missing
returns-clause-missing c = λ told r bytes is t m x nx k.
    let v = c.one_text_verdict.ensures in
    let o = c.one_outcome.ensures in
    missing_only v.unit v.broken v.apart o.one o.missing told r bytes is t m x nx k
