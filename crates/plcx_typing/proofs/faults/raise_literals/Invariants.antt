use Rattle.std.proofs.Common.{◌≡◌, ℕ, ◌<◌, ◌||◌, [], length, take}
use Rattle.std.specs.List.{list_any}
use Rattle.plcx_typing.specs.Sheets.{sheet}
use Rattle.plcx_typing.specs.Faults.{flag, source_raises}
use Rattle.plcx_typing.proofs.faults.raise_literals.Given as goal

abbrev pub invariant-loop-source : goal.invariant-loop-source
invariant-loop-source l = record {
  count : length l.flags.items ≡ length l.fn.flags.items;
  flags : (x : ℕ) → x < length l.fn.flags.items → flag l.flags.items x ≡ (flag l.fn.flags.items x || list_any (source_raises l.rule (sheet l.forms [] []) l.marks l.pin l.sources x) (take l.source-index l.sources));
}
