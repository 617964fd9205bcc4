use Rattle.std.proofs.Common.{ℕ, List}
use Rattle.std.proofs.lemmas.Result.{IfOk-weaker}
use Rattle.plcx_io.specs.Counts.{Rose}
use Rattle.plcx_words.specs.Says.{said_by_migration}
use Rattle.plcx_command.specs.ReplyOf.{answer_of}
use Rattle.plcx_command.proofs.Takes.{rose_later}
use Rattle.plcx_command.proofs.Carried.{migration_later, old_refused, old_there}
use Rattle.plcx_command.proofs.migrating.migrate_file.Goals as goal

pub returns-in-Laid : goal.returns-in-Laid
returns-in-Laid g c =
    let m = said_by_migration c.args.migration.now in
    let laid = rw c.in-Laid.is at c.in_ok-before.ensures.version in
    let files = c.take_version.ensures.files in
    let told = g.D.Desk.file c.args.desk.now in
    let between = λ (name : List ℕ). Rose (g.D.Desk.faults c.take_version.new.desk name) (g.D.Desk.faults c.migrated_from.new.desk name) in
    let rose = λ (name : List ℕ). Rose (g.D.Desk.faults c.args.desk.now name) (g.D.Desk.faults c.migrated_from.new.desk name) in
    let wider = λ (name : List ℕ) (x : between name). rose_later _ _ _ (c.take_version.ensures.later name) x in
    IfOk-weaker c.migrated_from.result _ _ (λ reply h.
    old_there told rose c.args.form m c.in-Laid.before (answer_of reply) laid
    (migration_later (g.D.Desk.file c.take_version.new.desk) told files between rose wider c.args.form m laid.bytes (answer_of reply) (h laid.bytes laid.has))) c.migrated_from.ensures

pub returns-in-Refused : goal.returns-in-Refused
returns-in-Refused g c =
    let m = said_by_migration c.args.migration.now in
    old_refused (g.D.Desk.file c.args.desk.now) (λ (name : List ℕ). Rose (g.D.Desk.faults c.args.desk.now name) (g.D.Desk.faults c.take_version.new.desk name))
    c.args.form m (answer_of c.in-Refused.reply) (rw c.in-Refused.is at c.in_ok-before.ensures.version)
