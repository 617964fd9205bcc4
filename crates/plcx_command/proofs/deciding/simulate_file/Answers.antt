use Rattle.std.proofs.Common.{ℕ, List, sym}
use Rattle.std.proofs.lemmas.Result.{IfOk-weaker}
use Rattle.plcx_io.specs.Counts.{Rose}
use Rattle.plcx_words.specs.Says.{said_by_run}
use Rattle.plcx_command.specs.Answer.{memory_answer}
use Rattle.plcx_command.specs.ReplyOf.{answer_of}
use Rattle.plcx_command.specs.Simulated.{Trace}
use Rattle.plcx_command.specs.declared.line.ProjectFile.TheVariants.{First}
use Rattle.plcx_command.proofs.Takes.{accepted_over, accepted_same, answers_later, hears_later, match_weaker, refused_over, rose_later}
use Rattle.plcx_command.proofs.deciding.simulate_file.Goals as goal

pub returns-in-Accepted-clause-says : goal.returns-in-Accepted-clause-says
returns-in-Accepted-clause-says g c =
    let r = said_by_run c.args.run.now in
    let checked = c.in-Accepted.checked in
    let file = rw c.in-Accepted.is at c.in_ok-checked.ensures.taken in
    let files = c.take_file.ensures.files in
    let same = accepted_same _ _ checked (sym (files r.file)) file in
    let told = g.D.Desk.file c.args.desk.now in
    let between = λ (name : List ℕ). Rose (g.D.Desk.faults c.take_file.new.desk name) (g.D.Desk.faults c.simulated.new.desk name) in
    let rose = λ (name : List ℕ). Rose (g.D.Desk.faults c.args.desk.now name) (g.D.Desk.faults c.simulated.new.desk name) in
    let wider = λ (name : List ℕ) (x : between name). rose_later _ _ _ (c.take_file.ensures.later name) x in
    IfOk-weaker c.simulated.result _ _ (λ reply h.
    accepted_over First _ _ r.file _ checked (answer_of reply) file (answers_later (g.D.Desk.file c.take_file.new.desk) told files between rose wider Trace r file.bytes (answer_of reply) (h same))) c.simulated.ensures.says

pub returns-in-Accepted-clause-heard : goal.returns-in-Accepted-clause-heard
returns-in-Accepted-clause-heard g c =
    let r = said_by_run c.args.run.now in
    let checked = c.in-Accepted.checked in
    let file = rw c.in-Accepted.is at c.in_ok-checked.ensures.taken in
    let files = c.take_file.ensures.files in
    match_weaker c.simulated.result _ _ _ _ (λ reply h. hears_later _ _ files _ r (answer_of reply) h) (λ e h. hears_later _ _ files _ r memory_answer h)
    (c.simulated.ensures.heard (accepted_same _ _ checked (sym (files r.file)) file))

pub returns-in-Refused-clause-says : goal.returns-in-Refused-clause-says
returns-in-Refused-clause-says g c = refused_over First _ _ c.args.run.now.file.now _ (answer_of c.in-Refused.reply) (rw c.in-Refused.is at c.in_ok-checked.ensures.taken)
