use Rattle.std.proofs.Common.{◌≡◌}
use Rattle.std.specs.List.{flat_map, range_with_len}
use Rattle.plcx_bench_file.specs.Text.{declaration_text}
use Rattle.plcx_bench_file.proofs.spelling.declarations_of.Given as goal

abbrev pub invariant-loop-i : goal.invariant-loop-i
invariant-loop-i l = l.text.items ≡ flat_map declaration_text (range_with_len 0 l.i)
