-- What a bench was answered.
use Rattle.std.proofs.Common.{◌≡◌, ◌∙◌, ℕ, List, sym, subst, ◌⊎◌, inl, inr, Option, Some}
use Rattle.plcx_meaning.specs.Evaluate.{Heard}
use Rattle.plcx_words.specs.Command.{Command, bench}
use Rattle.plcx_bench.specs.Summary.{IsSummary}
use Rattle.plcx_command.specs.Answer.{Answer, output, memory_answer}
use Rattle.plcx_command.specs.Benched.{AnswersBench}
use Rattle.plcx_command.specs.Ends.{Ends, Change, Written, MaySay}
use Rattle.plcx_command.specs.Headline.{BenchesExactly}
use Rattle.plcx_command.specs.Says.{Says}
use Rattle.plcx_command.specs.declared.status.Status.{Status}
use Rattle.plcx_command.specs.declared.status.Status.TheVariants as status
use Rattle.plcx_command.proofs.Statuses.{done}

module _ (told : List ℕ → Option (List ℕ)) (rose : List ℕ → Type 0) (Became : List Heard → Type 0) (command : Option Command) (s : Status) (out err : Change) where
  -- the status of an output, and of want of memory
  output_status : (text : List ℕ) → Written (output text) s out err → (s ≡ status.Done) ⊎ ((s ≡ status.NoMemory) ⊎ (s ≡ status.WriteFault))
  output_status text (inl w) = inl w.0
  output_status text (inr w) = inr (inr w.0)

  memory_status : Written memory_answer s out err → (s ≡ status.Done) ⊎ ((s ≡ status.NoMemory) ⊎ (s ≡ status.WriteFault))
  memory_status (inl w) = inr (inl w.0)
  memory_status (inr w) = inr (inr w.0)

  module _ (n : ℕ) (is : command ≡ Some (bench n)) where
    ended : (a : Answer) → MaySay told rose command a → Written a s out err → (s ≡ status.Done) ⊎ ((s ≡ status.NoMemory) ⊎ (s ≡ status.WriteFault))
    ended a (inl says) w =
        let h : AnswersBench n a = subst (λ (c : Option Command). Says told rose c a) is says in
        output_status h.text (subst (λ (x : Answer). Written x s out err) h.answer w)
    ended a (inr m) w = memory_status (subst (λ (x : Answer). Written x s out err) m w)

    summary_of : (a : Answer) (text : List ℕ) → a ≡ output text → MaySay told rose command a → IsSummary n text
    summary_of a text e (inl says) =
        let h : AnswersBench n a = subst (λ (c : Option Command). Says told rose c a) is says in
        let both : output h.text ≡ output text = sym h.answer ∙ e in
        let same : h.text ≡ text = cc in
        subst (IsSummary n) same h.is
    summary_of a text e (inr m) = absurd (cc)

  pub benches_exactly : Ends told rose Became command s out err → BenchesExactly command s out err
  benches_exactly ends n is = (
    ended n is ends.answer ends.said ends.written,
    (λ e. let w = done ends.answer s out err e ends.written in (w.text, summary_of n is ends.answer w.text w.is ends.said, w.gets, w.quiet)),
  )
