use Rattle.plcx_xml.specs.Reads.{attribute_at}
use Rattle.plcx_xml.proofs.ManyTimes.{many-ends, many-turn}
use Rattle.plcx_xml.proofs.tokens.attributes_of.Goals as goal

pub returns-in-None : goal.returns-in-None
returns-in-None c = rw c.from_vec.ensures (many-ends (attribute_at c.args.last) _ _ _ _ (rw c.in-None.is at c.in_ok-attribute_of.ensures) c.loop-turn.invariant)

pub loop-turn-preserved : goal.loop-turn-preserved
loop-turn-preserved c =
    rw c.in_ok-push-in-Some.ensures.items (many-turn (attribute_at c.args.last) _ _ _ _ _ _ c.loop-turn-test.true (rw c.in-Some.is at c.in_ok-attribute_of.ensures) c.loop-turn.invariant)
