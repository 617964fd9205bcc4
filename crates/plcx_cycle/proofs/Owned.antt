-- What a run leaves from what its sides leave.
use Rattle.std.proofs.Common.{◌≡◌, ◌<◌, ◌∙◌, ◌∷◌, ℕ, ℤ, zero, suc, List, [], Some, map, length, refl, sym, ap, ap₂, subst, arith}
use Rattle.std.specs.Prelude.{slice_get, Option}
use Rattle.std.proofs.lemmas.Option.{same_Some, slice_get_within}
use Rattle.plcx_types.specs.Lists.{Each}
use Rattle.plcx_meaning.specs.Base.{Path}
use Rattle.plcx_meaning.specs.Diagram.{Pou, Project, program_named}
use Rattle.plcx_meaning.specs.Evaluate.{DiagramState, diagram_machine}
use Rattle.plcx_meaning.specs.Run.{Machine, Event, begin_side}
use Rattle.plcx_meaning.specs.Traces.{lines_from}
use Rattle.plcx_state.specs.Layouts.{Laid, all_meant}
use Rattle.plcx_state.specs.Retains.{Pairwise, initially_kept, kept_at}
use Rattle.plcx_state.proofs.Eaches.{each_get}
use Rattle.plcx_state.proofs.Pairing.{long, pair_at}
use Rattle.plcx_scan.specs.Events.{meant_events}
use Rattle.plcx_eval.specs.declared.side.DiagramSide.{DiagramSide}
use Rattle.plcx_eval.specs.Sides.{machine_of, laid_of, last_of, StandsFor, IsOpened}
use Rattle.plcx_traced.proofs.Made.{kept_at_same}
use Rattle.plcx_simulate.specs.Programs.{programs_of}
use Rattle.plcx_tasks.specs.declared.planning.Instance.{Instance}
use Rattle.plcx_tasks.specs.declared.planning.TaskPlan.{TaskPlan}
use Rattle.plcx_tasks.specs.declared.rows.TaskRow.{TaskRow}
use Rattle.plcx_tasks.specs.declared.ticking.TaskEvent.{TaskEvent}
use Rattle.plcx_tasks.specs.Tasks.{own_events}
use Rattle.plcx_ticks.specs.Ticks.{AreNamedApart, HasPlainLeaves, meant_lays}
use Rattle.plcx_ticked.specs.Files as files
use Rattle.plcx_ticked.specs.Files.{IsTicked}
use Rattle.plcx_ticked.specs.Cycles.{IsOwned, AreOwned, AreRows, HasOwnLines, Cycles}
use Rattle.plcx_ticked.proofs.Alike.{events_alike, rows_alike}
use Rattle.plcx_cycle.specs.Sides.{HasDiagram, IsLaidOut, AreOpened}

-- an item of each place
there_is : {A : Type 0} (xs : List A) (i : ℕ) → i < length xs → (x : A) × (slice_get xs i ≡ Some x)
there_is [] i lt = absurd (omega arith)
there_is (x ∷ xs) zero lt = (x, refl)
there_is (x ∷ xs) (suc i) lt = there_is xs i (omega arith)

-- what holds of the item of each place
each_place : {A : Type 0} (P : A → Type 0) (xs : List A) → ((i : ℕ) (x : A) → slice_get xs i ≡ Some x → P x) → Each P xs
each_place P [] f = tt
each_place P (x ∷ xs) f = (f 0 x refl, each_place P xs (λ i. f (suc i)))

-- two lists whose items give the same
same_map : {A B C : Type 0} (f : A → C) (g : B → C) (xs : List A) (ys : List B) → length xs ≡ length ys → ((i : ℕ) (x : A) (y : B) → slice_get xs i ≡ Some x → slice_get ys i ≡ Some y → f x ≡ g y) → map f xs ≡ map g ys
same_map f g [] [] e h = refl
same_map f g [] (y ∷ ys) e h = absurd (omega arith)
same_map f g (x ∷ xs) [] e h = absurd (omega arith)
same_map {C = C} f g (x ∷ xs) (y ∷ ys) e h = ap₂ (λ (z : C) (zs : List C). z ∷ zs) (h 0 x y refl refl) (same_map f g xs ys (omega arith) (λ i. h (suc i)))

map_map : {A B C : Type 0} (f : A → B) (g : B → C) (xs : List A) → map g (map f xs) ≡ map (λ x. g (f x)) xs
map_map f g [] = refl
map_map {C = C} f g (x ∷ xs) = ap (λ (zs : List C). g (f x) ∷ zs) (map_map f g xs)

module _ (project : Project) where
  owned_by : (xs : List Instance) (ls : List Laid) → Each (HasDiagram project) xs → Pairwise (IsLaidOut project) xs ls → Pairwise (IsOwned (programs_of project)) xs ls
  owned_by [] [] has laid = tt
  owned_by [] (l ∷ ls) has laid = absurd laid
  owned_by (x ∷ xs) [] has laid = absurd laid
  owned_by (x ∷ xs) (l ∷ ls) has laid = (
    record { program = has.0.0; is = has.0.1; is_laid = laid.0.is_laid; leaves_are = (laid.0.laid_as.laid has.0.0 has.0.1).leaves.leaves },
    owned_by xs ls has.1 laid.1,
  )

  pub owned : (plan : TaskPlan) (ls : List Laid) → Each (HasDiagram project) plan.instances → Pairwise (IsLaidOut project) plan.instances ls → AreOwned (programs_of project) plan ls
  owned plan ls has laid = record { owned = owned_by plan.instances ls has laid }

  -- a side that was opened for a program of this name
  module _ (name : List ℕ) (l : Laid) (s : DiagramSide) (opened : IsOpened project name (initially_kept l.leaves) s) (p : Pou) (named : program_named name project ≡ Some p) (own : all_meant l.leaves ≡ (diagram_machine project p).layout) where
    machine_is : machine_of s ≡ diagram_machine project p
    machine_is = (opened.opens p named).machine ∙ ap (λ d. diagram_machine d p) opened.of

    alike : all_meant (laid_of s).leaves ≡ all_meant l.leaves
    alike = (opened.opens p named).laid.leaves.leaves ∙ ap (λ d. (diagram_machine d p).layout) opened.of ∙ sym own

    begins : StandsFor s (begin_side (diagram_machine project p) (kept_at l.leaves (initially_kept l.leaves)))
    begins =
        subst (λ (kept : Path → ℤ). StandsFor s (begin_side (diagram_machine project p) kept)) (kept_at_same (laid_of s).leaves l.leaves (initially_kept l.leaves) alike)
        (subst (λ d. StandsFor s (begin_side (diagram_machine d p) (kept_at (laid_of s).leaves (initially_kept l.leaves)))) opened.of (opened.opens p named).begins)

  -- the sides of a plan's instances
  module _ (plan : TaskPlan) (ls : List Laid) (sides : List DiagramSide) (has : Each (HasDiagram project) plan.instances) (laid : Pairwise (IsLaidOut project) plan.instances ls) (are : AreOpened project plan.instances ls sides) where
    record Beside (i : ℕ) (s : DiagramSide) : Type 0 where
      instance : Instance
      at : slice_get plan.instances i ≡ Some instance
      lays : Laid
      there : slice_get ls i ≡ Some lays
      opened : IsOpened project instance.program (initially_kept lays.leaves) s

    beside : (i : ℕ) (s : DiagramSide) → slice_get sides i ≡ Some s → Beside i s
    beside i s h =
        let within = slice_get_within sides i s h in
        let long_are = are.long in
        let long_ls = long (IsLaidOut project) plan.instances ls laid in
        let x = there_is plan.instances i (omega arith) in
        let l = there_is ls i (omega arith) in
        record { instance = x.0; at = x.1; lays = l.0; there = l.1; opened = are.each i x.0 l.0 s x.1 l.1 h }

    own_leaves : (i : ℕ) (x : Instance) (l : Laid) → slice_get plan.instances i ≡ Some x → slice_get ls i ≡ Some l → (p : Pou) → program_named x.program project ≡ Some p → all_meant l.leaves ≡ (diagram_machine project p).layout
    own_leaves i x l at there p named = ((pair_at (IsLaidOut project) plan.instances ls laid i x l at there).laid_as.laid p named).leaves.leaves

    pub fresh : Each (λ (s : DiagramSide). last_of s ≡ 0) sides
    fresh = each_place (λ (s : DiagramSide). last_of s ≡ 0) sides (λ i s h. (beside i s h).opened.time)

    leaves_are : map (λ (s : DiagramSide). all_meant (laid_of s).leaves) sides ≡ meant_lays ls
    leaves_are =
        same_map (λ (s : DiagramSide). all_meant (laid_of s).leaves) (λ (l : Laid). all_meant l.leaves) sides ls (are.long ∙ long (IsLaidOut project) plan.instances ls laid) (λ i s l h k.
        let b = beside i s h in
        let d = each_get (HasDiagram project) plan.instances i b.instance b.at has in
        let same : b.lays ≡ l = same_Some b.lays l (sym b.there ∙ k) in
        alike b.instance.program b.lays s b.opened d.0 d.1 (own_leaves i b.instance b.lays b.at b.there d.0 d.1) ∙ ap (λ (z : Laid). all_meant z.leaves) same)

    -- their leaves mean what those of the layouts mean
    pub leaves_alike : meant_lays (map laid_of sides) ≡ meant_lays ls
    leaves_alike = map_map laid_of (λ (l : Laid). all_meant l.leaves) sides ∙ leaves_are

    module _ (turns : ℕ) (events : List TaskEvent) (rows : List TaskRow) (are_rows : files.AreRows machine_of laid_of StandsFor turns plan sides events rows) where
      own_lines : (i : ℕ) (x : Instance) (l : Laid) → slice_get plan.instances i ≡ Some x → slice_get ls i ≡ Some l → HasOwnLines (programs_of project) turns plan events rows i x l
      own_lines i x l at there p named =
          let own = own_leaves i x l at there p named in
          let within = slice_get_within plan.instances i x at in
          let long_are = are.long in
          let s = there_is sides i (omega arith) in
          let opened = are.each i x l s.0 at there s.1 in
          let begun = begin_side (diagram_machine project p) (kept_at l.leaves (initially_kept l.leaves)) in
          are_rows.lines i s.0 s.1 begun (begins x.program l s.0 opened p named own)
          ∙ ap (λ (m : Machine DiagramState). lines_from m turns (meant_events (laid_of s.0).leaves (own_events plan events i)) begun) (machine_is x.program l s.0 opened p named own)
          ∙ ap (λ (es : List Event). lines_from (diagram_machine project p) turns es begun) (events_alike (laid_of s.0).leaves l.leaves (alike x.program l s.0 opened p named own) (own_events plan events i))

      rows_are : AreRows (programs_of project) turns plan ls events rows
      rows_are = record { places = are_rows.places; lines = own_lines; shown = rows_alike (map laid_of sides) ls leaves_alike rows are_rows.shown }

    -- the run of the plan is that of its programs
    pub cycles : (told : Option (List ℕ)) (turns : ℕ) (text : List ℕ) → AreNamedApart plan.instances → Each HasPlainLeaves ls → IsTicked machine_of laid_of StandsFor told turns plan ls sides text → Cycles told (programs_of project) turns plan text
    cycles told turns text apart plain t = record {
      lays = ls;
      owned = owned plan ls has laid;
      apart = apart;
      plain = plain;
      events = t.events;
      tells = t.tells;
      rows = t.has.rows;
      are_rows = rows_are turns t.events t.has.rows t.has.are_rows;
      text_is = t.has.text_is;
    }
