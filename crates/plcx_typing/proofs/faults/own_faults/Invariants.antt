use Rattle.std.proofs.Common.{◌≡◌, ℕ, ◌<◌, [], length}
use Rattle.plcx_rules.specs.Types.{form_at}
use Rattle.plcx_typing.specs.Sheets.{sheet}
use Rattle.plcx_typing.specs.Faults.{flag, element_breaks}
use Rattle.plcx_typing.proofs.faults.own_faults.Given as goal

abbrev pub invariant-loop-element : goal.invariant-loop-element
invariant-loop-element l = record {
  count : length l.flags.items ≡ l.element;
  flags : (x : ℕ) → x < l.element → flag l.flags.items x ≡ element_breaks l.rule l.marks x (form_at (sheet l.forms [] []) x);
}
