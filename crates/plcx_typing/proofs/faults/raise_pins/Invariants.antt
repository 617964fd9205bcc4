use Rattle.std.proofs.Common.{◌≡◌, ℕ, ◌<◌, ◌||◌, length}
use Rattle.plcx_typing.specs.Sheets.{sheet}
use Rattle.plcx_typing.specs.Faults.{flag, pins_raise}
use Rattle.plcx_typing.proofs.faults.raise_pins.Given as goal

abbrev pub invariant-loop-i : goal.invariant-loop-i
invariant-loop-i l = record {
  count : length l.flags.items ≡ length l.fn.flags.items;
  flags : (x : ℕ) → x < length l.fn.flags.items → flag l.flags.items x ≡ (flag l.fn.flags.items x || pins_raise l.rule (sheet l.forms l.pins l.links) l.marks x l.i);
}
