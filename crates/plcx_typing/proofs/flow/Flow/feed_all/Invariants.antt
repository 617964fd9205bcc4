use Rattle.std.proofs.Common.{ℕ, ◌<◌, get_or}
use Rattle.plcx_model.specs.declared.source.Source.{Source}
use Rattle.plcx_rules.specs.Types.{pin_at, gives_at}
use Rattle.plcx_typing.specs.Sheets.{sheet}
use Rattle.plcx_typing.specs.Flows.{IsFlowOf, Feeds, Grows}
use Rattle.plcx_typing.proofs.flow.Flow.feed_all.Given as goal

abbrev pub invariant-loop-source : goal.invariant-loop-source
invariant-loop-source l = record {
  flow : IsFlowOf (sheet l.forms l.pins l.links) l.self.seeds.items l.self.next.items;
  grows : Grows l.fn.self.seeds.items l.fn.self.next.items l.self.seeds.items l.self.next.items;
  fed : (k : ℕ) (d : Source) → k < l.source-index → Feeds l.self.seeds.items l.self.next.items (pin_at (sheet l.forms l.pins l.links) l.pin).element (get_or l.source-items k d) (gives_at (sheet l.forms l.pins l.links) (get_or l.source-items k d));
}
