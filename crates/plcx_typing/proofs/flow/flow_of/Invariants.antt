use Rattle.std.proofs.Common.{ℕ, ◌<◌}
use Rattle.plcx_typing.specs.Sheets.{sheet}
use Rattle.plcx_typing.specs.Flows.{IsFlowOf, FeedsAt, IsGroupPin}
use Rattle.plcx_typing.proofs.flow.flow_of.Given as goal

abbrev pub invariant-loop-pin : goal.invariant-loop-pin
invariant-loop-pin l = record {
  flow : IsFlowOf (sheet l.forms l.pins l.links) l.flow.seeds.items l.flow.next.items;
  fed : (k : ℕ) → k < l.pin → IsGroupPin (sheet l.forms l.pins l.links) k → FeedsAt (sheet l.forms l.pins l.links) l.flow.seeds.items l.flow.next.items k;
}
