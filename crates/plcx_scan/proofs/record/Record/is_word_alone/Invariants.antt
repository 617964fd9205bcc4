use Rattle.std.proofs.Common.{◌≡◌, drop}
use Rattle.std.specs.List.{list_all}
use Rattle.plcx_scan.specs.ReadFiles.{is_empty, is_word_alone}
use Rattle.plcx_scan.proofs.record.Record.is_word_alone.Given as goal

abbrev pub invariant-loop-i : goal.invariant-loop-i
invariant-loop-i l = list_all is_empty (drop l.i l.self) ≡ is_word_alone l.self
