use Rattle.std.proofs.Common.{◌≡◌, take, drop}
use Rattle.plcx_types.specs.Lists.{Each}
use Rattle.plcx_scan.specs.Events.{meant_events, CanFollow, last_at_end}
use Rattle.plcx_scan.specs.Sides.{BringsAll, HasLines}
use Rattle.plcx_scan.specs.Rows.{shown_numbers, meant_lines, IsRowOf}
use Rattle.plcx_scan.proofs.Entries.{AreLeft}
use Rattle.plcx_scan.proofs.running.run.Given as goal

-- the events so far are over
abbrev pub invariant-loop-entry : goal.invariant-loop-entry
invariant-loop-entry g l = record {
  shown : l.shown-inside.numbers.items ≡ shown_numbers (g.S.Side.laid l.side).leaves;
  left : AreLeft l.events l.entry-items l.rest l.entry-index;
  machine : g.S.Side.machine l.side ≡ g.S.Side.machine l.fn.side;
  laid : g.S.Side.laid l.side ≡ g.S.Side.laid l.fn.side;
  follow : CanFollow (g.S.Side.laid l.side).leaves (g.S.Side.last l.side) (drop l.entry-index l.events);
  meaning : BringsAll (g.S.Side.machine l.fn.side) l.turns (meant_events (g.S.Side.laid l.fn.side).leaves (take l.entry-index l.events)) (g.S.Side.stands_for l.fn.side) (g.S.Side.stands_for l.side);
  lines : HasLines (g.S.Side.machine l.fn.side) l.turns (meant_events (g.S.Side.laid l.fn.side).leaves (take l.entry-index l.events)) (g.S.Side.stands_for l.fn.side) (meant_lines l.rows.items);
  time : g.S.Side.last l.side ≡ last_at_end (g.S.Side.last l.fn.side) (take l.entry-index l.events);
  rows : Each (IsRowOf (g.S.Side.laid l.fn.side).leaves) l.rows.items;
}
