use Rattle.std.proofs.Common.{◌≤◌, ◌<◌, ℕ, take, length}
use Rattle.plcx_types.specs.declared.ty.Ty.TheVariants as ty
use Rattle.plcx_types.specs.Name.{in_lower_case}
use Rattle.plcx_lex.specs.Scan.{Number}
use Rattle.plcx_lex.proofs.whole.time_len.Given as goal

abbrev pub invariant-loop-n : goal.invariant-loop-n
invariant-loop-n l = record {
  within : l.n ≤ length l.text;
  longest : (m : ℕ) → l.n < m → m ≤ length l.text → Number ty.Time (take m (in_lower_case l.text)) → ⊥;
}

abbrev pub decreases-loop-n : goal.decreases-loop-n
decreases-loop-n l = l.n
