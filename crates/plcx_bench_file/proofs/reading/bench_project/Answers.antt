use Rattle.std.proofs.Common.{◌∙◌}
use Rattle.plcx_bench_file.specs.File.{bench_root}
use Rattle.plcx_bench_file.proofs.Refusals.{bytes-tree, tree-unbroken, project-bench}
use Rattle.plcx_bench_file.proofs.reading.bench_project.Goals as goal

pub tree_of-requires : goal.tree_of-requires
tree_of-requires c = (bench_root c.args.n, bytes-tree c.args.n c.deref.result.now c.requires (c.deref.ensures.value ∙ c.in_ok-bytes.ensures))

pub project_in-requires : goal.project_in-requires
project_in-requires c = tree-unbroken c.args.n c.deref.result.now c.in_ok-tree.tree c.requires (c.deref.ensures.value ∙ c.in_ok-bytes.ensures) c.in_ok-tree.ensures

pub returns-clause-bench : goal.returns-clause-bench
returns-clause-bench c = project-bench c.args.n c.deref.result.now c.in_ok-tree.tree c.in_ok-project_in.field-0 c.requires (c.deref.ensures.value ∙ c.in_ok-bytes.ensures) c.in_ok-tree.ensures c.in_ok-project_in.ensures
