use Rattle.std.proofs.Common.{ℕ, List, arith, length, ◌≤◌}
use Rattle.std.proofs.lemmas.Result.{IfOk-weaker}
use Rattle.plcx_io.specs.Counts.{Rose}
use Rattle.plcx_types.specs.Limits.{max_file_bytes}
use Rattle.plcx_words.specs.Says.{said_by_task_run}
use Rattle.plcx_command.specs.Cycled.{AnswersCycle}
use Rattle.plcx_command.specs.ReplyOf.{answer_of}
use Rattle.plcx_command.specs.Says.{whole}
use Rattle.plcx_command.specs.declared.line.ProjectFile.TheVariants.{First}
use Rattle.plcx_command.proofs.Takes.{cycle_later, judged_less, rose_later}
use Rattle.plcx_command.proofs.cycling.cycle_file.Goals as goal

pub returns-in-Ok : goal.returns-in-Ok
returns-in-Ok g c =
    let t = said_by_task_run c.args.run.now in
    let bytes = c.in-Ok.bytes.items in
    let short : length bytes ≤ max_file_bytes = omega (arith, c.in-Ok.bytes.ok.0, c.in-Ok.ensures.whole.0) in
    let told = g.D.Desk.file c.args.desk.now in
    let later = g.D.Desk.file c.load.new.desk in
    let between = λ (name : List ℕ). Rose (g.D.Desk.faults c.load.new.desk name) (g.D.Desk.faults c.cycle_bytes.new.desk name) in
    let rose = λ (name : List ℕ). Rose (g.D.Desk.faults c.args.desk.now name) (g.D.Desk.faults c.cycle_bytes.new.desk name) in
    let wider = λ (name : List ℕ) (x : between name). rose_later _ _ _ (c.load.ensures.later name) x in
    IfOk-weaker c.cycle_bytes.result _ _ (λ reply h.
    whole bytes short c.in-Ok.ensures.whole.1
    (judged_less First (AnswersCycle later between t) (AnswersCycle told rose t) (λ b a k. cycle_later later told c.load.ensures.files between rose wider t b a k) bytes (answer_of reply)
    (rw c.deref.ensures.value at h))) c.cycle_bytes.ensures
