use Rattle.std.proofs.Common.{◌≡◌, take, true}
use Rattle.std.specs.List.{list_all}
use Rattle.plcx_lex.specs.Scan.{belongs}
use Rattle.plcx_lex.proofs.runs.run_len.Given as goal

abbrev pub invariant-loop-i : goal.invariant-loop-i
invariant-loop-i l = list_all (belongs l.class) (take l.i l.text) ≡ true
