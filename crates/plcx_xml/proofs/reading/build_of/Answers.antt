use Rattle.std.proofs.Common.{◌<◌, length, ap, sym, tests, rules}
use Rattle.std.specs.List.{flat_map}
use Rattle.plcx_xml.specs.Built.{opened, open_place, Going}
use Rattle.plcx_xml.proofs.Ending.{stops-here}
use Rattle.plcx_xml.proofs.Reached.{reached-outset, reached-step, token-shorter}
use Rattle.plcx_xml.proofs.reading.build_of.Goals as goal

pub loop-rest-init : goal.loop-rest-init
loop-rest-init c = reached-outset _ _ _ (sym c.behind_mark-rest.ensures) (ap (λ fs. Going (open_place fs)) c.new.ensures.items) (ap (flat_map opened) c.new.ensures.items)

pub loop-rest-smaller : goal.loop-rest-smaller
loop-rest-smaller c = token-shorter _ _ _ _ _ c.loop-rest.invariant (sym (rw c.in-Some.is at c.in_ok-token.ensures))

pub loop-rest-preserved : goal.loop-rest-preserved
loop-rest-preserved c = reached-step _ _ _ _ _ _ c.loop-rest.invariant (sym (rw c.in-Some.is at c.in_ok-token.ensures)) c.in_ok-build.ensures.state c.in_ok-build.ensures.events

pub returns-in_default-clause-stops : goal.returns-in_default-clause-stops
returns-in_default-clause-stops c =
    let some : 0 < length c.loop-rest.rest.now = search (rules, tests) in
    let at = c.saturating_sub.ensures in
    let stops = stops-here c.args.front.now c.loop-rest.rest.now c.loop-rest.build c.loop-rest.invariant (sym (rw c.in_default.is at c.in_ok-token.ensures)) some in
    rw at stops
