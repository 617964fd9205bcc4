-- One step more of a run: what it does to the side of its instance, and to the others nothing.
use Rattle.std.proofs.Common.{◌≡◌, ◌<◌, ◌∙◌, ℕ, zero, suc, Bool, true, false, nat_eq, List, [], ◌∷◌, ◌++◌, Some, map, set, take, length, refl, sym, ap, subst, arith, if◌then◌else◌}
use Rattle.std.specs.Prelude.{filter, slice_get}
use Rattle.std.specs.Option.{option_map}
use Rattle.std.proofs.Math.Seq.{take-append_seam}
use Rattle.std.proofs.lemmas.Bool.{eqb-true, eqb-false, eq-eqb}
use Rattle.std.proofs.lemmas.Grind.{flat_map-append}
use Rattle.std.proofs.lemmas.List.{map-append, length-append, append-nil}
use Rattle.std.proofs.lemmas.List.Elements.{filter-append}
use Rattle.std.proofs.lemmas.Option.{slice_get-map, slice_get_within}
use Rattle.plcx_meaning.specs.Run as meant
use Rattle.plcx_meaning.specs.Run.{Machine}
use Rattle.plcx_meaning.specs.Traces.{Line}
use Rattle.plcx_state.specs.Layouts.{Laid}
use Rattle.plcx_state.specs.declared.layout.Leaf.{Leaf}
use Rattle.plcx_scan.specs.Events.{Event, meant_event, meant_events, CanBeNext, CanFollow, last_after, last_at_end}
use Rattle.plcx_scan.specs.Sides.{Brings, BringsAll, BringsSome, HasLine, HasLines}
use Rattle.plcx_scan.proofs.Runs.{brings_more, has_more, last_push}
use Rattle.plcx_tasks.specs.declared.rows.TaskRow.{TaskRow}
use Rattle.plcx_tasks.specs.declared.scheduling.Step.{Step}
use Rattle.plcx_tasks.specs.Runs.{task_line, lines_of, HaveLines, AreBrought, AreBroughtSome, AreLast}
use Rattle.plcx_tasks.specs.Steps.{event_of, own_of, own_in, CanStep}

-- what an item of a list is, where maps of two lists are the same
pub same_at : {A B : Type 0} (f : A → B) (xs ys : List A) (i : ℕ) (x y : A) → map f xs ≡ map f ys → slice_get xs i ≡ Some x → slice_get ys i ≡ Some y → f x ≡ f y
same_at f xs ys i x y same here there =
    let both : Some (f x) ≡ Some (f y) = ap (option_map f) (sym here) ∙ sym (slice_get-map f xs i) ∙ ap (λ zs. slice_get zs i) same ∙ slice_get-map f ys i ∙ ap (option_map f) there in
    cc

pub set_same : {A : Type 0} (xs : List A) (i : ℕ) (y : A) → i < length xs → slice_get (set xs i y) i ≡ Some y
set_same [] i y lt = absurd (omega arith)
set_same (x ∷ xs) zero y lt = refl
set_same (x ∷ xs) (suc i) y lt = set_same xs i y (omega arith)

pub set_other : {A : Type 0} (xs : List A) (i j : ℕ) (y : A) → (i ≡ j → ⊥) → slice_get (set xs i y) j ≡ slice_get xs j
set_other [] i j y apart = refl
set_other (x ∷ xs) zero zero y apart = absurd (apart refl)
set_other (x ∷ xs) zero (suc j) y apart = refl
set_other (x ∷ xs) (suc i) zero y apart = refl
set_other (x ∷ xs) (suc i) (suc j) y apart = set_other xs i j y (λ e. apart (ap suc e))

pub set_map : {A B : Type 0} (f : A → B) (xs : List A) (i : ℕ) (x y : A) → slice_get xs i ≡ Some x → f y ≡ f x → map f (set xs i y) ≡ map f xs
set_map f [] i x y here same = refl
set_map f (z ∷ xs) zero x y here same = let is : z ≡ x = cc in ap (λ b. b ∷ map f xs) (same ∙ ap f (sym is))
set_map f (z ∷ xs) (suc i) x y here same = ap (λ bs. f z ∷ bs) (set_map f xs i x y here same)

pub set_length : {A : Type 0} (xs : List A) (i : ℕ) (y : A) → length (set xs i y) ≡ length xs
set_length [] i y = refl
set_length (x ∷ xs) zero y = refl
set_length (x ∷ xs) (suc i) y = ap suc (set_length xs i y)

-- one step more is an event more of its instance, and none of another
own_more : (done : List Step) (x : Step) (i : ℕ) → nat_eq x.instance i ≡ true → own_in (done ++ x ∷ []) i ≡ own_in done i ++ event_of x.what ∷ []
own_more done x i same = flat_map-append (own_of i) done (x ∷ []) ∙ ap (λ (b : Bool). own_in done i ++ ((if b then event_of x.what ∷ [] else []) ++ [])) same

own_other : (done : List Step) (x : Step) (i : ℕ) → nat_eq x.instance i ≡ false → own_in (done ++ x ∷ []) i ≡ own_in done i
own_other done x i apart = flat_map-append (own_of i) done (x ∷ []) ∙ ap (λ (b : Bool). own_in done i ++ ((if b then event_of x.what ∷ [] else []) ++ [])) apart ∙ append-nil (own_in done i)

-- the rows of an instance
abbrev of_instance : ℕ → TaskRow → Bool
of_instance i r = nat_eq r.instance i

row_more : (rows : List TaskRow) (row : TaskRow) (i : ℕ) → nat_eq row.instance i ≡ true → lines_of i (rows ++ row ∷ []) ≡ lines_of i rows ++ task_line row ∷ []
row_more rows row i same =
    ap (map task_line) (filter-append (of_instance i) rows (row ∷ []) ∙ ap (λ (b : Bool). filter (of_instance i) rows ++ (if b then row ∷ [] else [])) same)
    ∙ map-append task_line (filter (of_instance i) rows) (row ∷ [])

row_other : (rows : List TaskRow) (row : TaskRow) (i : ℕ) → nat_eq row.instance i ≡ false → lines_of i (rows ++ row ∷ []) ≡ lines_of i rows
row_other rows row i apart =
    ap (map task_line) (filter-append (of_instance i) rows (row ∷ []) ∙ ap (λ (b : Bool). filter (of_instance i) rows ++ (if b then row ∷ [] else [])) apart ∙ append-nil (filter (of_instance i) rows))

meant_more : (leaves : List Leaf) (es : List Event) (e : Event) → meant_events leaves (es ++ e ∷ []) ≡ meant_events leaves es ++ meant_event leaves e ∷ []
meant_more leaves es e = map-append (meant_event leaves) es (e ∷ [])

module _ {S G : Type 0} (machine : S → Machine G) (laid : S → Laid) (stands : S → meant.Side G → Type 0) (last : S → ℕ) (turns : ℕ) where
  -- the sides after some steps, of which these are the rows
  pub record AreGoing (old now : List S) (done : List Step) (rows : List TaskRow) : Type 0 where
    pub machines : map machine now ≡ map machine old
    pub laids : map laid now ≡ map laid old
    pub brought : AreBrought machine laid stands turns old now (own_in done)
    pub lines : HaveLines machine laid stands turns old (own_in done) rows
    pub time : AreLast laid last old now (own_in done)

  -- one step: from a side to another, which is like it
  pub record IsOver (s t : S) (x : Step) : Type 0 where
    pub machine_is : machine t ≡ machine s
    pub laid_is : laid t ≡ laid s
    pub brought : Brings (machine s) turns (meant_event (laid s).leaves (event_of x.what)) (stands s) (stands t)
    pub time : last t ≡ last_after (last s) (event_of x.what)

  abbrev pub IsLineOf : S → Step → TaskRow → Type 0
  IsLineOf s x row = HasLine (machine s) turns (meant_event (laid s).leaves (event_of x.what)) (stands s) (task_line row)

  pub begins : (old : List S) → AreGoing old old [] []
  begins old = record {
    machines = refl;
    laids = refl;
    brought = λ i s t here there. let same : s ≡ t = (let both : Some s ≡ Some t = sym here ∙ there in cc) in λ g is. subst (λ u. stands u g) same is;
    lines = λ i s here g is. refl;
    time = λ i s t here there. let same : t ≡ s = (let both : Some t ≡ Some s = sym there ∙ here in cc) in ap last same;
  }

  -- the event of the step, for the side that there was first
  brings_on : (o s t : S) → machine s ≡ machine o → laid s ≡ laid o → (es : List Event) (e : Event) → BringsAll (machine o) turns (meant_events (laid o).leaves es) (stands o) (stands s)
      → Brings (machine s) turns (meant_event (laid s).leaves e) (stands s) (stands t) → BringsAll (machine o) turns (meant_events (laid o).leaves (es ++ e ∷ [])) (stands o) (stands t)
  brings_on o s t machine_is laid_is es e all one =
      subst (λ xs. BringsAll (machine o) turns xs (stands o) (stands t)) (sym (meant_more (laid o).leaves es e))
      (brings_more (machine o) turns (meant_events (laid o).leaves es) (meant_event (laid o).leaves e) (stands o) (stands s) (stands t) all
      (subst (λ (m : Machine G). Brings m turns (meant_event (laid o).leaves e) (stands s) (stands t)) machine_is (subst (λ (l : Laid). Brings (machine s) turns (meant_event l.leaves e) (stands s) (stands t)) laid_is one)))

  lines_on : (o s : S) → machine s ≡ machine o → laid s ≡ laid o → (es : List Event) (e : Event) (lines : List Line) (l : Line) → BringsAll (machine o) turns (meant_events (laid o).leaves es) (stands o) (stands s)
      → HasLines (machine o) turns (meant_events (laid o).leaves es) (stands o) lines → HasLine (machine s) turns (meant_event (laid s).leaves e) (stands s) l
      → HasLines (machine o) turns (meant_events (laid o).leaves (es ++ e ∷ [])) (stands o) (lines ++ l ∷ [])
  lines_on o s machine_is laid_is es e lines l all before here =
      subst (λ xs. HasLines (machine o) turns xs (stands o) (lines ++ l ∷ [])) (sym (meant_more (laid o).leaves es e))
      (has_more (machine o) turns (meant_events (laid o).leaves es) (meant_event (laid o).leaves e) (stands o) (stands s) lines l all before
      (subst (λ (m : Machine G). HasLine m turns (meant_event (laid o).leaves e) (stands s) l) machine_is (subst (λ (k : Laid). HasLine (machine s) turns (meant_event k.leaves e) (stands s) l) laid_is here)))

  module _ (old now : List S) (done : List Step) (rows : List TaskRow) (going : AreGoing old now done rows) (x : Step) (s t : S) (here : slice_get now x.instance ≡ Some s) (over : IsOver s t x) where
    abbrev pub moved : List S
    moved = set now x.instance t

    within : x.instance < length now
    within = slice_get_within now x.instance s here

    the_machine : (i : ℕ) (o : S) → x.instance ≡ i → slice_get old i ≡ Some o → machine s ≡ machine o
    the_machine i o at there = same_at machine now old i s o going.machines (subst (λ j. slice_get now j ≡ Some s) at here) there

    the_laid : (i : ℕ) (o : S) → x.instance ≡ i → slice_get old i ≡ Some o → laid s ≡ laid o
    the_laid i o at there = same_at laid now old i s o going.laids (subst (λ j. slice_get now j ≡ Some s) at here) there

    here_at : (i : ℕ) → x.instance ≡ i → slice_get now i ≡ Some s
    here_at i at = subst (λ j. slice_get now j ≡ Some s) at here

    new_is : (i : ℕ) (u : S) → x.instance ≡ i → slice_get moved i ≡ Some u → u ≡ t
    new_is i u at there = let both : Some u ≡ Some t = sym there ∙ subst (λ j. slice_get moved j ≡ Some t) at (set_same now x.instance t within) in cc

    brought_at : (i : ℕ) (o u : S) → slice_get old i ≡ Some o → slice_get moved i ≡ Some u → (b : Bool) → nat_eq x.instance i ≡ b → BringsAll (machine o) turns (meant_events (laid o).leaves (own_in (done ++ x ∷ []) i)) (stands o) (stands u)
    brought_at i o u first there true is =
        let at : x.instance ≡ i = eqb-true x.instance i is in
        subst (λ es. BringsAll (machine o) turns (meant_events (laid o).leaves es) (stands o) (stands u)) (sym (own_more done x i is))
        (subst (λ w. BringsAll (machine o) turns (meant_events (laid o).leaves (own_in done i ++ event_of x.what ∷ [])) (stands o) (stands w)) (sym (new_is i u at there))
        (brings_on o s t (the_machine i o at first) (the_laid i o at first) (own_in done i) (event_of x.what) (going.brought i o s first (here_at i at)) over.brought))
    brought_at i o u first there false is =
        subst (λ es. BringsAll (machine o) turns (meant_events (laid o).leaves es) (stands o) (stands u)) (sym (own_other done x i is))
        (going.brought i o u first (sym (set_other now x.instance i t (eqb-false x.instance i is)) ∙ there))

    time_at : (i : ℕ) (o u : S) → slice_get old i ≡ Some o → slice_get moved i ≡ Some u → (b : Bool) → nat_eq x.instance i ≡ b → last u ≡ last_at_end (last o) (own_in (done ++ x ∷ []) i)
    time_at i o u first there true is =
        let at : x.instance ≡ i = eqb-true x.instance i is in
        ap last (new_is i u at there) ∙ over.time ∙ ap (λ n. last_after n (event_of x.what)) (going.time i o s first (here_at i at))
        ∙ sym (last_push (last o) (own_in done i) (event_of x.what)) ∙ ap (last_at_end (last o)) (sym (own_more done x i is))
    time_at i o u first there false is =
        going.time i o u first (sym (set_other now x.instance i t (eqb-false x.instance i is)) ∙ there) ∙ ap (last_at_end (last o)) (sym (own_other done x i is))

    lines_at : (row : TaskRow) → row.instance ≡ x.instance → IsLineOf s x row → (i : ℕ) (o : S) → slice_get old i ≡ Some o → (b : Bool) → nat_eq x.instance i ≡ b
        → HasLines (machine o) turns (meant_events (laid o).leaves (own_in (done ++ x ∷ []) i)) (stands o) (lines_of i (rows ++ row ∷ []))
    lines_at row placed line i o first true is =
        let at : x.instance ≡ i = eqb-true x.instance i is in
        let row_is : nat_eq row.instance i ≡ true = ap (λ n. nat_eq n i) placed ∙ is in
        subst (λ es. HasLines (machine o) turns (meant_events (laid o).leaves es) (stands o) (lines_of i (rows ++ row ∷ []))) (sym (own_more done x i is))
        (subst (λ ls. HasLines (machine o) turns (meant_events (laid o).leaves (own_in done i ++ event_of x.what ∷ [])) (stands o) ls) (sym (row_more rows row i row_is))
        (lines_on o s (the_machine i o at first) (the_laid i o at first) (own_in done i) (event_of x.what) (lines_of i rows) (task_line row) (going.brought i o s first (here_at i at)) (going.lines i o first) line))
    lines_at row placed line i o first false is =
        let row_is : nat_eq row.instance i ≡ false = ap (λ n. nat_eq n i) placed ∙ is in
        subst (λ es. HasLines (machine o) turns (meant_events (laid o).leaves es) (stands o) (lines_of i (rows ++ row ∷ []))) (sym (own_other done x i is))
        (subst (λ ls. HasLines (machine o) turns (meant_events (laid o).leaves (own_in done i)) (stands o) ls) (sym (row_other rows row i row_is)) (going.lines i o first))

    pub goes_on : (row : TaskRow) → row.instance ≡ x.instance → IsLineOf s x row → AreGoing old moved (done ++ x ∷ []) (rows ++ row ∷ [])
    goes_on row placed line = record {
      machines = set_map machine now x.instance s t here over.machine_is ∙ going.machines;
      laids = set_map laid now x.instance s t here over.laid_is ∙ going.laids;
      brought = λ i o u first there. brought_at i o u first there (nat_eq x.instance i) refl;
      lines = λ i o first. lines_at row placed line i o first (nat_eq x.instance i) refl;
      time = λ i o u first there. time_at i o u first there (nat_eq x.instance i) refl;
    }

    -- where the row is wanted, the step is over all the same
    pub brought_on : AreBrought machine laid stands turns old moved (own_in (done ++ x ∷ []))
    brought_on i o u first there = brought_at i o u first there (nat_eq x.instance i) refl

    pub machines_on : map machine moved ≡ map machine old
    machines_on = set_map machine now x.instance s t here over.machine_is ∙ going.machines

    pub laids_on : map laid moved ≡ map laid old
    laids_on = set_map laid now x.instance s t here over.laid_is ∙ going.laids

  -- so many steps are some of all steps
  pub some_steps : (old new : List S) (done rest : List Step) → AreBrought machine laid stands turns old new (own_in done) → AreBroughtSome machine laid stands turns old new (own_in (done ++ rest))
  some_steps old new done rest all i o u first there =
      let es = meant_events (laid o).leaves (own_in done i) in
      let others = meant_events (laid o).leaves (own_in rest i) in
      let parts : meant_events (laid o).leaves (own_in (done ++ rest) i) ≡ es ++ others = ap (meant_events (laid o).leaves) (flat_map-append (own_of i) done rest) ∙ map-append (meant_event (laid o).leaves) (own_in done i) (own_in rest i) in
      some_of (machine o) es others (meant_events (laid o).leaves (own_in (done ++ rest) i)) parts (stands o) (stands u) (all i o u first there)
    where
      some_of : (m : Machine G) (es others both : List meant.Event) → both ≡ es ++ others → (Old New : meant.Side G → Type 0) → BringsAll m turns es Old New → BringsSome m turns both Old New
      some_of m es others both is Old New all =
          (length es, (rw (is, length-append es others) (omega arith)), subst (λ xs. BringsAll m turns xs Old New) (sym (ap (take (length es)) is ∙ take-append_seam es others)) all)

-- what can come next where some events have come
next_of : (leaves : List Leaf) (last : ℕ) (es : List Event) (e : Event) (fs : List Event) → CanFollow leaves last (es ++ e ∷ fs) → CanBeNext leaves (last_at_end last es) e
next_of leaves last [] e fs can = can.0
next_of leaves last (d ∷ es) e fs can = next_of leaves (last_after last d) es e fs can.1

-- the event of the next step can come next to its side
pub can_come : {S : Type 0} (laid : S → Laid) (last : S → ℕ) (old now : List S) (done : List Step) (x : Step) (rest : List Step) (s : S) → map laid now ≡ map laid old → AreLast laid last old now (own_in done)
    → CanStep laid last old (done ++ x ∷ rest) → slice_get now x.instance ≡ Some s → (o : S) → slice_get old x.instance ≡ Some o → CanBeNext (laid s).leaves (last s) (event_of x.what)
can_come laid last old now done x rest s same time can here o first =
    let parts : own_in (done ++ x ∷ rest) x.instance ≡ own_in done x.instance ++ event_of x.what ∷ own_in rest x.instance =
    flat_map-append (own_of x.instance) done (x ∷ rest) ∙ ap (λ (b : Bool). own_in done x.instance ++ ((if b then event_of x.what ∷ [] else []) ++ own_in rest x.instance)) (eq-eqb x.instance x.instance refl) in
    let next = next_of (laid o).leaves (last o) (own_in done x.instance) (event_of x.what) (own_in rest x.instance) (subst (CanFollow (laid o).leaves (last o)) parts (can x.instance o first)) in
    let laid_is : laid o ≡ laid s = sym (same_at laid now old x.instance s o same here first) in
    subst (λ (l : Laid). CanBeNext l.leaves (last s) (event_of x.what)) laid_is (subst (λ n. CanBeNext (laid o).leaves n (event_of x.what)) (sym (time x.instance o s first here)) next)
