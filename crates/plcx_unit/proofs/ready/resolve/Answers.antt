use Rattle.std.proofs.Common.{sym, subst}
use Rattle.plcx_unit.specs.Refused.{Refuses}
use Rattle.plcx_unit.proofs.Units.{ready_by, refused_by}
use Rattle.plcx_unit.proofs.ready.resolve.Goals as goal

pub invariant_of-result : goal.invariant_of-result
invariant_of-result c = ready_by c.args.unit (sym (rw c.in-Ok-None.field-0-is at c.in-Ok-None.ensures))

pub returns-in-Ok-None-clause-ready : goal.returns-in-Ok-None-clause-ready
returns-in-Ok-None-clause-ready c = ready_by c.args.unit (sym (rw c.in-Ok-None.field-0-is at c.in-Ok-None.ensures))

pub returns-in-Ok-Some-clause-refused : goal.returns-in-Ok-Some-clause-refused
returns-in-Ok-Some-clause-refused c = subst (Refuses c.args.unit) (sym c.fault_of.ensures) (refused_by c.args.unit _ (sym (rw c.in-Ok-Some.field-0-is at c.in-Ok-Some.ensures)))
