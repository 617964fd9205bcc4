use Rattle.std.proofs.Common.{refl, sym}
use Rattle.plcx_names.proofs.HoldingLaws.{seen}
use Rattle.plcx_names.proofs.helds.text_holding.Goals as goal

pub returns-in-None : goal.returns-in-None
returns-in-None c = seen c.in_ok-text_held.field-0 _ _ c.in_ok-text_held.ensures (rw c.in-None.is refl)

pub returns-in-Some-Instance : goal.returns-in-Some-Instance
returns-in-Some-Instance c = seen c.in_ok-text_held.field-0 _ _ c.in_ok-text_held.ensures (rw (c.in-Some-Instance.is, c.in-Some-Instance.field-0-is) (sym c.holding_of.ensures))

pub returns-in-Some-Literal : goal.returns-in-Some-Literal
returns-in-Some-Literal c = seen c.in_ok-text_held.field-0 _ _ c.in_ok-text_held.ensures (rw (c.in-Some-Literal.is, c.in-Some-Literal.field-0-is) (sym c.holding_of-in-Some-Literal.ensures))

pub returns-in-Some-Output : goal.returns-in-Some-Output
returns-in-Some-Output c = seen c.in_ok-text_held.field-0 _ _ c.in_ok-text_held.ensures (rw (c.in-Some-Output.is, c.in-Some-Output.field-0-is) (sym c.holding_of-in-Some-Output.ensures))

pub returns-in-Some-Variable : goal.returns-in-Some-Variable
returns-in-Some-Variable c = seen c.in_ok-text_held.field-0 _ _ c.in_ok-text_held.ensures (rw (c.in-Some-Variable.is, c.in-Some-Variable.field-0-is) (sym c.holding_of-in-Some-Variable.ensures))
