-- What is answered to a number of networks that are measured.
use Rattle.std.specs.Prelude.{◌≡◌, ℕ, List}
use Rattle.plcx_bench.specs.Summary.{IsSummary}
use Rattle.plcx_command.specs.Answer.{Answer, output}

-- the answer is their summary
pub record AnswersBench (n : ℕ) (a : Answer) : Type 0 where
  pub text : List ℕ
  pub is : IsSummary n text
  pub answer : a ≡ output text
