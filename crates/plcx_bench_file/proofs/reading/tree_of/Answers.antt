use Rattle.plcx_bench_file.proofs.Refusals.{memory-only}
use Rattle.plcx_bench_file.proofs.reading.tree_of.Goals as goal

pub out_of_memory-requires : goal.out_of_memory-requires
out_of_memory-requires c = memory-only c.args.bytes.now c.in-Err.fault c.requires.0 c.requires.1 c.in-Err.ensures.fails
