use Rattle.std.proofs.Common.{◌≡◌, map, take, length}
use Rattle.plcx_state.specs.ReadLines.{Goes}
use Rattle.plcx_state.proofs.lines.note_lines.Given as goal

abbrev pub invariant-loop-place : goal.invariant-loop-place
invariant-loop-place l = record {
  goes : Goes l.table (take l.place (map (λ x. x.now) l.lines)) l.draft.items;
  long : length l.draft.items ≡ length l.table;
}
