use Rattle.std.proofs.Common.{ℕ, List, sym}
use Rattle.std.proofs.lemmas.Result.{IfOk-weaker}
use Rattle.plcx_io.specs.Counts.{Rose}
use Rattle.plcx_words.specs.Says.{said_by_migration}
use Rattle.plcx_command.specs.ReplyOf.{answer_of}
use Rattle.plcx_command.proofs.Takes.{rose_later}
use Rattle.plcx_command.proofs.Carried.{loaded_same, migration_later, new_refused}
use Rattle.plcx_command.proofs.migrating.migrated_from.Goals as goal

pub returns-in-Laid : goal.returns-in-Laid
returns-in-Laid g c =
    let m = said_by_migration c.args.migration.now in
    let laid = rw c.in-Laid.is at c.in_ok-after.ensures.version in
    let files = c.take_version.ensures.files in
    let told = g.D.Desk.file c.args.desk.now in
    let between = λ (name : List ℕ). Rose (g.D.Desk.faults c.take_version.new.desk name) (g.D.Desk.faults c.migrated.new.desk name) in
    let rose = λ (name : List ℕ). Rose (g.D.Desk.faults c.args.desk.now name) (g.D.Desk.faults c.migrated.new.desk name) in
    let wider = λ (name : List ℕ) (x : between name). rose_later _ _ _ (c.take_version.ensures.later name) x in
    IfOk-weaker c.migrated.result _ _ (λ reply h old has.
    migration_later (g.D.Desk.file c.take_version.new.desk) told files between rose wider c.args.form m old (answer_of reply)
    (h old laid.bytes has (loaded_same _ _ laid.bytes (sym (files m.new)) laid.loaded) laid.has)) c.migrated.ensures

pub returns-in-Refused : goal.returns-in-Refused
returns-in-Refused g c = λ old has.
    let m = said_by_migration c.args.migration.now in
    new_refused (g.D.Desk.file c.args.desk.now) (λ (name : List ℕ). Rose (g.D.Desk.faults c.args.desk.now name) (g.D.Desk.faults c.take_version.new.desk name))
    c.args.form m old c.args.before.now has (answer_of c.in-Refused.reply) (rw c.in-Refused.is at c.in_ok-after.ensures.version)
