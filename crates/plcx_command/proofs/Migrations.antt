-- What a migration was answered for, and that it comes to one thing.
use Rattle.std.proofs.Common.{◌≡◌, ◌≢◌, ◌∙◌, ℕ, List, refl, sym, ap, subst, inl, inr, Option, Some}
use Rattle.std.specs.Prelude.{Result, Ok, Err}
use Rattle.plcx_meaning.specs.Diagram.{Project}
use Rattle.plcx_meaning.specs.Evaluate.{Heard}
use Rattle.plcx_model.specs.declared.broken.Broken as model
use Rattle.plcx_state.specs.Layouts.{Laid}
use Rattle.plcx_state.specs.declared.layout.Leaf.{Leaf}
use Rattle.plcx_words.specs.Command.{Command, Migration}
use Rattle.plcx_traced.specs.Files.{IsLoaded}
use Rattle.plcx_migrate.specs.declared.error.MigrateError.{MigrateError}
use Rattle.plcx_migrate.specs.declared.error.MigrateError.TheVariants as error
use Rattle.plcx_migrate.specs.declared.migrating.Form.{Form}
use Rattle.plcx_migrate.specs.declared.migrating.Form.TheVariants.{Lines, Report}
use Rattle.plcx_migrate.specs.Migrations as values
use Rattle.plcx_migrate.specs.Versions.{IsVersion, LacksProgram}
use Rattle.plcx_migrate.proofs.OneMigration.{one_migration}
use Rattle.plcx_migrate.proofs.OneVersion.{one_version, not_both, one_count}
use Rattle.plcx_command.specs.Answer.{Answer, output}
use Rattle.plcx_command.specs.Compiled.{HasDiagrams}
use Rattle.plcx_command.specs.Ends.{Ends, Change, Gets, Unchanged}
use Rattle.plcx_command.specs.Headline.{IsDefined, project_file, Reads, Never, IsTold, TellsAll, MigratesExactly}
use Rattle.plcx_command.specs.Migrated.{NotMigrated, OldProgram, NewRead, NewBroken, NewProgram, RetainedRead, Line, action_of, answer_to_migration, HasVersion, HasNoVersion}
use Rattle.plcx_command.specs.Migrated.{IsBrokenFile, too_long, breaks, OldVersion, NewFile, Versions, ComesTo, AnswersMigration, Migrates}
use Rattle.plcx_command.specs.Verdict as verdict
use Rattle.plcx_command.specs.Verdict.{Verdict, FileVerdict, TooLong, Within, Passed, Refused}
use Rattle.plcx_command.specs.declared.status.Status.{Status}
use Rattle.plcx_command.specs.declared.status.Status.TheVariants as status
use Rattle.plcx_command.proofs.Found.{tells-same, IsFollowed}
use Rattle.plcx_command.proofs.Statuses.{status_for, done}
use Rattle.plcx_command.proofs.Laws.{IsAnswered, answered, ByVerdict, passes, fails, by_verdict, done-passes, file_of_action}

-- what the values come to, as what the migration comes to
abbrev pub whole : Result (List ℕ) MigrateError → Result (List ℕ) NotMigrated
whole (Ok text) = Ok text
whole (Err error.RetainedRead) = Err RetainedRead
whole (Err (error.Line n)) = Err (Line n)
whole (Err error.NoMemory) = Err RetainedRead

-- the files of a migration are read
pub reads_old : (form : Form) (m : Migration) → Reads (Some (action_of form m)) m.old
reads_old Lines m = inl refl
reads_old Report m = inl refl

pub reads_new : (form : Form) (m : Migration) → Reads (Some (action_of form m)) m.new
reads_new Lines m = inr (inl refl)
reads_new Report m = inr (inl refl)

pub reads_retained : (form : Form) (m : Migration) → Reads (Some (action_of form m)) m.retain
reads_retained Lines m = inr (inr refl)
reads_retained Report m = inr (inr refl)

-- it comes to this before the retained file is read
abbrev pub IsEarly : Result (List ℕ) NotMigrated → Type 0
IsEarly y = (rest : Result (List ℕ) MigrateError) → y ≡ whole rest → ⊥

module _ (one_verdict : (bytes : List ℕ) (v w : Verdict) → FileVerdict bytes v → FileVerdict bytes w → v ≡ w)
    (one_list : (bytes : List ℕ) (a b : Project) → HasDiagrams bytes a → HasDiagrams bytes b → a ≡ b) where
  -- ---- the version of a file is one

  version_same : (bytes : List ℕ) (program : Option (List ℕ)) (a b : Laid) → HasVersion bytes program a → HasVersion bytes program b → a.leaves ≡ b.leaves
  version_same bytes program a b h k =
      one_version k.diagrams program a b (subst (λ (ds : Project). IsVersion ds program a) (one_list bytes h.diagrams k.diagrams h.has k.has) h.version) k.version

  version_not_none : (bytes : List ℕ) (program : Option (List ℕ)) (a : Laid) (n : ℕ) → HasVersion bytes program a → HasNoVersion bytes program n → ⊥
  version_not_none bytes program a n h k =
      not_both k.diagrams program a n (subst (λ (ds : Project). IsVersion ds program a) (one_list bytes h.diagrams k.diagrams h.has k.has) h.version) k.lacks

  none_same : (bytes : List ℕ) (program : Option (List ℕ)) (m n : ℕ) → HasNoVersion bytes program m → HasNoVersion bytes program n → m ≡ n
  none_same bytes program m n h k =
      one_count k.diagrams program m n (subst (λ (ds : Project). LacksProgram ds program m) (one_list bytes h.diagrams k.diagrams h.has k.has) h.lacks) k.lacks

  module _ (told : List ℕ → Option (List ℕ)) (form : Form) (m : Migration) (new : IsTold told m.new) where
    loaded_same : (bytes : List ℕ) → IsLoaded (told m.new) bytes → bytes ≡ new.0
    loaded_same bytes l = tells-same (told m.new) bytes new.0 new.1 l.tells

    -- the new file is accepted, or refused
    accepts_new : (bytes : List ℕ) → IsLoaded (told m.new) bytes → (ds : Project) → HasDiagrams bytes ds → FileVerdict new.0 verdict.Accepted
    accepts_new bytes l ds h = subst (λ (b : List ℕ). FileVerdict b verdict.Accepted) (loaded_same bytes l) (Within l.short (Passed h.project h.keeps))

    breaks_new : (b : model.Broken) → IsBrokenFile (told m.new) b → FileVerdict new.0 (verdict.Broken b)
    breaks_new _ (too_long l) = let k = new.1 in TooLong (rw k at l)
    breaks_new _ (breaks bytes {b} l h) = subst (λ (x : List ℕ). FileVerdict x (verdict.Broken b)) (loaded_same bytes l) (Within l.short (Refused h))

    not_accepted : (bytes : List ℕ) → IsLoaded (told m.new) bytes → (ds : Project) → HasDiagrams bytes ds → (b : model.Broken) → IsBrokenFile (told m.new) b → ⊥
    not_accepted bytes l ds h b k = let both : verdict.Accepted ≡ verdict.Broken b = one_verdict new.0 verdict.Accepted (verdict.Broken b) (accepts_new bytes l ds h) (breaks_new b k) in cc

    broken_same : (b c : model.Broken) → IsBrokenFile (told m.new) b → IsBrokenFile (told m.new) c → b ≡ c
    broken_same b c h k = let both : verdict.Broken b ≡ verdict.Broken c = one_verdict new.0 (verdict.Broken b) (verdict.Broken c) (breaks_new b h) (breaks_new c k) in cc

    module _ (bytes : List ℕ) where
      -- what comes of both versions
      record IsWhole (x : Result (List ℕ) NotMigrated) : Type 0 where
        pub both : Versions told m bytes
        pub rest : Result (List ℕ) MigrateError
        pub there : rest ≢ Err error.NoMemory
        pub comes : values.ComesTo form (told m.retain) ⊥ both.file.before.laid.leaves both.after.leaves rest
        pub is : x ≡ whole rest

      -- what a migration comes to where nothing fails
      data Seen (x : Result (List ℕ) NotMigrated) : Type 0 where
        no_old : (n : ℕ) → HasNoVersion bytes m.program n → x ≡ Err (OldProgram n) → Seen x
        broken_new : (b : model.Broken) → OldVersion m bytes → IsBrokenFile (told m.new) b → x ≡ Err (NewBroken b) → Seen x
        no_new : (n : ℕ) (f : NewFile told m bytes) → HasNoVersion f.bytes m.program n → x ≡ Err (NewProgram n) → Seen x
        versions : IsWhole x → Seen x

      seen : (x : Result (List ℕ) NotMigrated) → ComesTo told Never form m bytes x → Seen x
      seen (Ok text) h = versions (record { both = h.0; rest = Ok text; there = λ e. cc; comes = h.1; is = refl })
      seen (Err (OldProgram n)) h = no_old n h refl
      seen (Err NewRead) h = absurd h.1
      seen (Err (NewBroken b)) h = broken_new b h.0 h.1 refl
      seen (Err (NewProgram n)) h = no_new n h.0 h.1 refl
      seen (Err RetainedRead) h = absurd h.1
      seen (Err (Line n)) h = versions (record { both = h.0; rest = Err (error.Line n); there = λ e. cc; comes = h.1; is = refl })

      new_not_none : (v : Versions told m bytes) (n : ℕ) (f : NewFile told m bytes) → HasNoVersion f.bytes m.program n → ⊥
      new_not_none v n f h =
          let same : f.bytes ≡ v.file.bytes = loaded_same f.bytes f.loaded ∙ sym (loaded_same v.file.bytes v.file.loaded) in
          version_not_none v.file.bytes m.program v.after n v.is (subst (λ (b : List ℕ). HasNoVersion b m.program n) same h)

      -- two outcomes are one, where those of both versions are
      module _ (x y : Result (List ℕ) NotMigrated) (wholes : IsWhole x → IsWhole y → x ≡ y) where
        agree : Seen x → Seen y → x ≡ y
        agree (no_old n h e) (no_old k i f) = e ∙ ap (λ p. Err (OldProgram p)) (none_same bytes m.program n k h i) ∙ sym f
        agree (no_old n h e) (broken_new b o i f) = absurd (version_not_none bytes m.program o.laid n o.is h)
        agree (no_old n h e) (no_new k g i f) = absurd (version_not_none bytes m.program g.before.laid n g.before.is h)
        agree (no_old n h e) (versions w) = absurd (version_not_none bytes m.program w.both.file.before.laid n w.both.file.before.is h)
        agree (broken_new b o h e) (no_old k i f) = absurd (version_not_none bytes m.program o.laid k o.is i)
        agree (broken_new b o h e) (broken_new c p i f) = e ∙ ap (λ d. Err (NewBroken d)) (broken_same b c h i) ∙ sym f
        agree (broken_new b o h e) (no_new k g i f) = absurd (not_accepted g.bytes g.loaded i.diagrams i.has b h)
        agree (broken_new b o h e) (versions w) = absurd (not_accepted w.both.file.bytes w.both.file.loaded w.both.is.diagrams w.both.is.has b h)
        agree (no_new n g h e) (no_old k i f) = absurd (version_not_none bytes m.program g.before.laid k g.before.is i)
        agree (no_new n g h e) (broken_new c o i f) = absurd (not_accepted g.bytes g.loaded h.diagrams h.has c i)
        agree (no_new n g h e) (no_new k j i f) =
            let same : g.bytes ≡ j.bytes = loaded_same g.bytes g.loaded ∙ sym (loaded_same j.bytes j.loaded) in
            e ∙ ap (λ p. Err (NewProgram p)) (none_same j.bytes m.program n k (subst (λ (b : List ℕ). HasNoVersion b m.program n) same h) i) ∙ sym f
        agree (no_new n g h e) (versions w) = absurd (new_not_none w.both n g h)
        agree (versions w) (no_old k i f) = absurd (version_not_none bytes m.program w.both.file.before.laid k w.both.file.before.is i)
        agree (versions w) (broken_new c o i f) = absurd (not_accepted w.both.file.bytes w.both.file.loaded w.both.is.diagrams w.both.is.has c i)
        agree (versions w) (no_new k g i f) = absurd (new_not_none w.both k g i)
        agree (versions w) (versions z) = wholes w z

      -- those of both versions are one, where the retained file is told
      same_wholes : IsTold told m.retain → (x y : Result (List ℕ) NotMigrated) → IsWhole x → IsWhole y → x ≡ y
      same_wholes held x y w z =
          let new_bytes : w.both.file.bytes ≡ z.both.file.bytes = loaded_same w.both.file.bytes w.both.file.loaded ∙ sym (loaded_same z.both.file.bytes z.both.file.loaded) in
          let before : w.both.file.before.laid.leaves ≡ z.both.file.before.laid.leaves =
          version_same bytes m.program w.both.file.before.laid z.both.file.before.laid w.both.file.before.is z.both.file.before.is in
          let after : w.both.after.leaves ≡ z.both.after.leaves =
          version_same z.both.file.bytes m.program w.both.after z.both.after (subst (λ (b : List ℕ). HasVersion b m.program w.both.after) new_bytes w.both.is) z.both.is in
          let own = subst (λ (ls : List Leaf). values.ComesTo form (told m.retain) ⊥ z.both.file.before.laid.leaves ls w.rest) after
          (subst (λ (ls : List Leaf). values.ComesTo form (told m.retain) ⊥ ls w.both.after.leaves w.rest) before w.comes) in
          w.is
          ∙ ap whole (one_migration form (told m.retain) held.0 held.1 z.both.file.before.laid z.both.after z.both.file.before.is.version.is_laid z.both.is.version.is_laid w.rest z.rest w.there z.there own z.comes)
          ∙ sym z.is

    migrates_bytes : (x y : Result (List ℕ) NotMigrated) (h : Migrates told Never form m x) (k : Migrates told Never form m y) → h.bytes ≡ k.bytes
    migrates_bytes x y h k = let both : Some h.bytes ≡ Some k.bytes = sym h.tells ∙ k.tells in cc

    own_comes : (x y : Result (List ℕ) NotMigrated) (h : Migrates told Never form m x) (k : Migrates told Never form m y) → ComesTo told Never form m k.bytes x
    own_comes x y h k = subst (λ (b : List ℕ). ComesTo told Never form m b x) (migrates_bytes x y h k) h.comes

    -- where all files are told, a migration comes to one thing
    pub one_migrated : IsTold told m.retain → (x y : Result (List ℕ) NotMigrated) → Migrates told Never form m x → Migrates told Never form m y → x ≡ y
    one_migrated held x y h k = agree k.bytes x y (same_wholes k.bytes held x y) (seen k.bytes x (own_comes x y h k)) (seen k.bytes y k.comes)

    -- and one that is refused before the retained file is read comes to nothing else
    pub one_early : (x y : Result (List ℕ) NotMigrated) → IsEarly y → Migrates told Never form m x → Migrates told Never form m y → x ≡ y
    one_early x y early h k = agree k.bytes x y (λ w z. absurd (early z.rest z.is)) (seen k.bytes x (own_comes x y h k)) (seen k.bytes y k.comes)

  module _ (told : List ℕ → Option (List ℕ)) (rose : List ℕ → Type 0) (Became : List Heard → Type 0) (form : Form) (m : Migration) where
    -- ---- a migration whose status is defined did not fail

    pub calm : (bytes : List ℕ) (x : Result (List ℕ) NotMigrated) → IsDefined (status_for (answer_to_migration m x)) → ComesTo told rose form m bytes x → ComesTo told Never form m bytes x
    calm bytes (Ok text) d h = h
    calm bytes (Err (OldProgram n)) d h = h
    calm bytes (Err NewRead) d h = absurd d
    calm bytes (Err (NewBroken b)) d h = h
    calm bytes (Err (NewProgram n)) d h = h
    calm bytes (Err RetainedRead) d h = absurd d
    calm bytes (Err (Line n)) d h = h

    follows_here : (form' : Form) (a : Answer) (f : IsFollowed told rose (action_of form' m) m.old a) → AnswersMigration told rose form' m f.bytes a
    follows_here Lines a f = f.follows
    follows_here Report a f = f.follows

    -- the answer of a migration
    pub follows_migration : (c : Command) (a : Answer) → action_of form m ≡ c → (f : IsFollowed told rose c m.old a) → AnswersMigration told rose form m f.bytes a
    follows_migration c a is = subst (λ (d : Command). (g : IsFollowed told rose d m.old a) → AnswersMigration told rose form m g.bytes a) is (follows_here form a)

    -- what a migration whose status is defined comes to
    pub record IsOutcome (a : Answer) : Type 0 where
      pub outcome : Result (List ℕ) NotMigrated
      pub migrates : Migrates told Never form m outcome
      pub answer : a ≡ answer_to_migration m outcome

    outcome_of : (c : Command) (old : IsTold told m.old) (a : Answer) → action_of form m ≡ c → IsDefined (status_for a) → IsFollowed told rose c m.old a → IsOutcome a
    outcome_of c old a is d f =
        let own = follows_migration c a is f in
        record {
          outcome = own.outcome;
          migrates = record {
            bytes = f.bytes;
            tells = old.1 ∙ ap Some (sym (tells-same (told m.old) f.bytes old.0 old.1 f.tells));
            short = f.short;
            comes = calm f.bytes own.outcome (subst (λ (x : Answer). IsDefined (status_for x)) own.answer d) own.comes;
          };
          answer = own.answer;
        }

    -- the old file of a migration that comes to something else than a refusal of its rules is accepted
    old_diagrams : (bytes : List ℕ) (x : Result (List ℕ) NotMigrated) → ComesTo told Never form m bytes x → (ds : Project) × HasDiagrams bytes ds
    old_diagrams bytes (Ok text) h = (h.0.file.before.is.diagrams, h.0.file.before.is.has)
    old_diagrams bytes (Err (OldProgram n)) h = (h.diagrams, h.has)
    old_diagrams bytes (Err NewRead) h = absurd h.1
    old_diagrams bytes (Err (NewBroken b)) h = (h.0.is.diagrams, h.0.is.has)
    old_diagrams bytes (Err (NewProgram n)) h = (h.0.before.is.diagrams, h.0.before.is.has)
    old_diagrams bytes (Err RetainedRead) h = absurd h.1
    old_diagrams bytes (Err (Line n)) h = (h.0.file.before.is.diagrams, h.0.file.before.is.has)

    pub migrates_accepted : (x : Result (List ℕ) NotMigrated) (bytes : List ℕ) → told m.old ≡ Some bytes → Migrates told Never form m x → FileVerdict bytes verdict.Accepted
    migrates_accepted x bytes k h =
        let ds = old_diagrams h.bytes x h.comes in
        let both : Some h.bytes ≡ Some bytes = sym h.tells ∙ k in
        let same : h.bytes ≡ bytes = cc in
        subst (λ (b : List ℕ). FileVerdict b verdict.Accepted) same (Within h.short (Passed ds.1.project ds.1.keeps))

    by_migration : (command : Option Command) (a : Answer) (s : Status) → command ≡ Some (action_of form m) → (old : IsTold told m.old) → IsDefined s → IsAnswered one_verdict told rose Became command a s
        → ByVerdict one_verdict told rose Became command m.old old.0 a
    by_migration command a s is old d answer = by_verdict one_verdict told rose Became command m.old old.0 a s (ap project_file is ∙ file_of_action form m) old.1 d answer

    -- a migration that comes to something was answered to that of it
    pub outcome_there : (command : Option Command) (a : Answer) (s : Status) (x : Result (List ℕ) NotMigrated) → command ≡ Some (action_of form m) → (old : IsTold told m.old) → IsDefined s
        → IsAnswered one_verdict told rose Became command a s → Migrates told Never form m x → IsOutcome a
    outcome_there command a s x is old d answer h = by (by_migration command a s is old d answer)
      where
        by : ByVerdict one_verdict told rose Became command m.old old.0 a → IsOutcome a
        by (passes c n v f) = let same : action_of form m ≡ c = cc in outcome_of c old a same (subst IsDefined answer.status d) f
        by (fails b v e) =
            let both : verdict.Accepted ≡ verdict.Broken b = one_verdict old.0 verdict.Accepted (verdict.Broken b) (migrates_accepted x old.0 old.1 h) v in absurd (cc)

    -- ---- the clause

    record IsText (out err : Change) : Type 0 where
      text : List ℕ
      migrates : Migrates told Never form m (Ok text)
      gets : Gets out text
      quiet : Unchanged err

    text_of : (x : Result (List ℕ) NotMigrated) (text : List ℕ) → output text ≡ answer_to_migration m x → x ≡ Ok text
    text_of (Ok t) text e = let same : text ≡ t = cc in ap Ok (sym same)
    text_of (Err f) text e = absurd (cc)

    done_text : (command : Option Command) (s : Status) (out err : Change) (ends : Ends told rose Became command s out err) → command ≡ Some (action_of form m)
        → IsTold told m.old → IsDefined s → s ≡ status.Done → IsText out err
    done_text command s out err ends is old d e =
        let answer = answered one_verdict told rose Became command s out err d ends in
        let by = by_migration command ends.answer s is old d answer in
        let w = done ends.answer s out err e ends.written in
        let p = done-passes one_verdict told rose Became command m.old old.0 ends.answer w.text w.is by in
        let n = p.1 in
        let same : action_of form m ≡ p.0 = cc in
        let o = outcome_of p.0 old ends.answer same (subst IsDefined answer.status d) p.2 in
        record {
          text = w.text;
          migrates = subst (Migrates told Never form m) (text_of o.outcome w.text (sym w.is ∙ o.answer)) o.migrates;
          gets = w.gets;
          quiet = w.quiet;
        }

  module _ (told : List ℕ → Option (List ℕ)) (rose : List ℕ → Type 0) (Became : List Heard → Type 0) where
    own_all : (form : Form) (m : Migration) (command : Option Command) → command ≡ Some (action_of form m) → TellsAll told command → TellsAll told (Some (action_of form m))
    own_all form m command is all = subst (λ (c : Option Command). TellsAll told c) is all

    text_done : (form : Form) (m : Migration) (command : Option Command) (s : Status) (out err : Change) (ends : Ends told rose Became command s out err) → command ≡ Some (action_of form m)
        → TellsAll told (Some (action_of form m)) → IsDefined s → (text : List ℕ) → Migrates told Never form m (Ok text) → s ≡ status.Done
    text_done form m command s out err ends is all d text h =
        let answer = answered one_verdict told rose Became command s out err d ends in
        let o = outcome_there told rose Became form m command ends.answer s (Ok text) is (all m.old (reads_old form m)) d answer h in
        answer.status
        ∙ ap status_for o.answer
        ∙ ap (λ x. status_for (answer_to_migration m x)) (one_migrated told form m (all m.new (reads_new form m)) (all m.retain (reads_retained form m)) o.outcome (Ok text) o.migrates h)

    pub migrates_exactly : (command : Option Command) (s : Status) (out err : Change) → Ends told rose Became command s out err → MigratesExactly told command s out err
    migrates_exactly command s out err ends form m is all d =
        let own = own_all form m command is all in (
          (
            (λ e. let t = done_text told rose Became form m command s out err ends is (own m.old (reads_old form m)) d e in (t.text, t.migrates)),
            (λ h. text_done form m command s out err ends is own d h.0 h.1),
          ),
          (λ e. let t = done_text told rose Became form m command s out err ends is (own m.old (reads_old form m)) d e in (t.text, t.migrates, t.gets, t.quiet)),
        )
