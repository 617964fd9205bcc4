use Rattle.plcx_lower.proofs.body.Body.put_stored.Goals as goal

pub returns-in-Rising : goal.returns-in-Rising
returns-in-Rising c = rw c.in-Rising.is (rw c.in_ok-wire.ensures at c.put_rising.ensures)
