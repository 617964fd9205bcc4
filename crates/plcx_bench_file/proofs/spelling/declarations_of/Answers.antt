use Rattle.std.proofs.Common.{rules}
use Rattle.plcx_bench_file.specs.Text.{declaration_text}
use Rattle.plcx_bench_file.proofs.Spelled.{row-more}
use Rattle.plcx_bench_file.proofs.spelling.declarations_of.Goals as goal

pub loop-i-preserved : goal.loop-i-preserved
loop-i-preserved c = row-more declaration_text c.loop-i.i c.loop-i.text.items _ c.loop-i.invariant (search rules)
