-- A project that is measured breaks no rule.
use Rattle.std.proofs.Common.{ℕ, None, sym, subst}
use Rattle.plcx_model.specs.declared.project.Project.{Project}
use Rattle.plcx_rules.specs.CheckVerdict.{CheckVerdict, Unbroken}
use Rattle.plcx_bench_project.specs.Bench.{IsMeasured, IsBench}
use Rattle.plcx_bench_rules.proofs.Links.{links_kept}
use Rattle.plcx_bench_rules.proofs.Typing.{types_kept}

pub unbroken : (n : ℕ) (project : Project) → IsMeasured n → IsBench n project → CheckVerdict project None
unbroken n project measured is = subst (λ (p : Project). CheckVerdict p None) (sym is) (Unbroken (links_kept n measured.few) (types_kept n measured.few))
