use Rattle.plcx_profile.proofs.Fineness.{joined_step}
use Rattle.plcx_profile.proofs.settling.joined.Goals as goal

pub loop-head-preserved : goal.loop-head-preserved
loop-head-preserved c =
    let same = rw (c.in-Some.ensures.items, c.in-Some-pop.ensures) at c.loop-head.invariant.same in
    let made = rw (c.in-Some.ensures.items, c.in-Some-pop.ensures) at c.loop-head.invariant.made in
    let step = joined_step c.pop.new.self.items c.pop-in-Some.new.self c.in-Some.head c.in-Some-pop.pou c.loop-head.all.items _ same made in
    record { same = step.0; made = rw (c.in_ok-push-in-Some-pop.ensures.items, c.with_head.ensures) step.1 }
