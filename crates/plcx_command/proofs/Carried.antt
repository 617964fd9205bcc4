-- A migration from its steps: the old version, the new one, and what becomes of the values.
use Rattle.std.proofs.Common.{◌≡◌, ℕ, List, Option, subst}
use Rattle.std.specs.Prelude.{Result, Ok, Err}
use Rattle.std.proofs.Math.Path.{fun_ext}
use Rattle.plcx_state.specs.Layouts.{Laid}
use Rattle.plcx_io.specs.Told.{Tells}
use Rattle.plcx_types.specs.Limits.{max_file_bytes}
use Rattle.plcx_check.specs.declared.checked.Checked.{Checked}
use Rattle.plcx_words.specs.Command.{Migration}
use Rattle.plcx_traced.specs.Files.{IsLoaded}
use Rattle.plcx_simulate.specs.Programs.{diagrams_in}
use Rattle.plcx_migrate.specs.declared.migrating.Form.{Form}
use Rattle.plcx_command.specs.Answer.{Answer}
use Rattle.plcx_command.specs.Migrated.{NotMigrated, OldProgram, NewRead, NewBroken, NewProgram, RetainedRead, Line, HasVersion, Versions, ComesTo, AnswersMigration, OldVersion}
use Rattle.plcx_command.specs.Migrated as migrated
use Rattle.plcx_command.specs.ReplyOf.{answer_of}
use Rattle.plcx_command.specs.Says.{AfterRead, fault, too_long, whole, Judged, Answers, SaysMigration, long_answer}
use Rattle.plcx_command.specs.Taken.{IsAccepted}
use Rattle.plcx_command.specs.Verdict as verdict
use Rattle.plcx_command.specs.Verdict.{Verdict, IsVerdict, Refused, Passed}
use Rattle.plcx_command.specs.VersionOf.{IsLaidFrom, AnswersNoProgram, IsVersionOf, IsVersionFrom}
use Rattle.plcx_command.specs.declared.line.ProjectFile.{ProjectFile}
use Rattle.plcx_command.specs.declared.line.ProjectFile.TheVariants.{First, New}
use Rattle.plcx_command.specs.declared.migrating.Version as version
use Rattle.plcx_command.specs.declared.migrating.Version.TheVariants as version'
use Rattle.plcx_command.proofs.Takes.{accepted_over, after_less, diagrams_there}

-- the version of a checked project is that of its file
pub version_whole : (file : ProjectFile) (told : Option (List ℕ)) (rose : Type 0) (name : List ℕ) (program : Option (List ℕ)) (c : Checked) → IsAccepted told c → (v : version.Version)
    → IsVersionOf file c program v → IsVersionFrom file told rose name program v
version_whole file told rose name program c f (version'.Laid layout) h = record {
  bytes = f.bytes;
  loaded = record { tells = f.tells; short = f.short };
  has = record { diagrams = diagrams_in c; has = diagrams_there told c f; version = h };
}
version_whole file told rose name program c f (version'.Refused reply) h =
    accepted_over file told rose name (AnswersNoProgram file program) c (answer_of reply) f
    (record { programs = h.0; none = record { diagrams = diagrams_in c; has = diagrams_there told c f; lacks = h.1 }; answer = h.2 })

module _ (told : List ℕ → Option (List ℕ)) (m : Migration) (old new : List ℕ) (before after : Laid) where
  -- both versions, from their files
  abbrev pub versions_there : HasVersion old m.program before → IsLoaded (told m.new) new → HasVersion new m.program after → Versions told m old
  versions_there has loaded has' = record { file = record { before = record { laid = before; is = has }; bytes = new; loaded = loaded }; after = after; is = has' }

module _ (told : List ℕ → Option (List ℕ)) (rose : List ℕ → Type 0) (form : Form) (m : Migration) where
  -- where there is no old version, that is the answer
  no_old : (bytes : List ℕ) (a : Answer) → AnswersNoProgram First m.program bytes a → AnswersMigration told rose form m bytes a
  no_old bytes a h = record { outcome = Err (OldProgram h.programs); comes = h.none; answer = h.answer }

  pub old_refused : (a : Answer) → AfterRead (told m.old) (rose m.old) m.old (long_answer First) (λ bytes. Judged First bytes (AnswersNoProgram First m.program bytes)) a → SaysMigration told rose form m a
  old_refused a h = after_less First (AnswersNoProgram First m.program) (AnswersMigration told rose form m) no_old (told m.old) (rose m.old) m.old (long_answer First) a h

  pub old_there : (before : Laid) (a : Answer) (h : IsLaidFrom (told m.old) m.program before) → AnswersMigration told rose form m h.bytes a → SaysMigration told rose form m a
  old_there before a h n =
      whole h.bytes h.loaded.short h.loaded.tells (record { verdict = verdict.Accepted; judged = Passed h.has.has.project h.has.has.keeps; answers = n })

  -- and so where there is no new one
  module _ (old : List ℕ) (before : Laid) (has : HasVersion old m.program before) (a : Answer) where
    there : OldVersion m old
    there = record { laid = before; is = has }

    by_verdict : (bytes : List ℕ) → IsLoaded (told m.new) bytes → (v : Verdict) → IsVerdict bytes v → Answers New (AnswersNoProgram New m.program bytes) v a → AnswersMigration told rose form m old a
    by_verdict bytes loaded _ (Passed project keeps) n =
        record { outcome = Err (NewProgram n.programs); comes = (record { before = there; bytes = bytes; loaded = loaded }, n.none); answer = n.answer }
    by_verdict bytes loaded _ (Refused {b} h) n = record { outcome = Err (NewBroken b); comes = (there, migrated.breaks bytes loaded h); answer = n }

    pub new_refused : AfterRead (told m.new) (rose m.new) m.new (long_answer New) (λ bytes. Judged New bytes (AnswersNoProgram New m.program bytes)) a → AnswersMigration told rose form m old a
    new_refused (fault r e) = record { outcome = Err NewRead; comes = (there, r); answer = e }
    new_refused (too_long l e) = record { outcome = Err (NewBroken (verdict.at_byte 7 max_file_bytes)); comes = (there, migrated.too_long l); answer = e }
    new_refused (whole bytes short tells j) = by_verdict bytes (record { tells = tells; short = short }) j.verdict j.judged j.answers

-- ---- over a desk that tells the same

pub loaded_same : (told same : Option (List ℕ)) (bytes : List ℕ) → told ≡ same → IsLoaded told bytes → IsLoaded same bytes
loaded_same told same bytes e h = record { tells = subst (λ t. Tells t bytes) e h.tells; short = h.short }

comes_wider : (told : List ℕ → Option (List ℕ)) (rose more : List ℕ → Type 0) → ((name : List ℕ) → rose name → more name) → (form : Form) (m : Migration) (bytes : List ℕ) (x : Result (List ℕ) NotMigrated)
    → ComesTo told rose form m bytes x → ComesTo told more form m bytes x
comes_wider told rose more w form m bytes (Ok text) h = h
comes_wider told rose more w form m bytes (Err (OldProgram programs)) h = h
comes_wider told rose more w form m bytes (Err NewRead) h = (h.0, w m.new h.1)
comes_wider told rose more w form m bytes (Err (NewBroken b)) h = h
comes_wider told rose more w form m bytes (Err (NewProgram programs)) h = h
comes_wider told rose more w form m bytes (Err RetainedRead) h = (h.0, w m.retain h.1)
comes_wider told rose more w form m bytes (Err (Line line)) h = h

pub migration_later : (told same : List ℕ → Option (List ℕ)) → ((name : List ℕ) → told name ≡ same name) → (rose more : List ℕ → Type 0) → ((name : List ℕ) → rose name → more name)
    → (form : Form) (m : Migration) (bytes : List ℕ) (a : Answer) → AnswersMigration told rose form m bytes a → AnswersMigration same more form m bytes a
migration_later told same e rose more w form m bytes a h =
    let own = subst (λ (t : List ℕ → Option (List ℕ)). AnswersMigration t rose form m bytes a) (fun_ext e) h in
    record { outcome = own.outcome; comes = comes_wider same rose more w form m bytes own.outcome own.comes; answer = own.answer }
