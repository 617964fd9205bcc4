-- What `run_steps` needs of one step, and what it comes to.
use Rattle.std.proofs.Common.{◌≡◌, ◌<◌, ◌+◌, ◌∙◌, append_assoc, ℕ, List, [], ◌∷◌, ◌++◌, Some, map, set, take, drop, length, get_or, refl, sym, ap, subst, arith}
use Rattle.std.specs.Prelude.{slice_get}
use Rattle.std.specs.Option.{option_map}
use Rattle.std.proofs.lemmas.List.{map-append, take_more, drop_more, take-append-drop}
use Rattle.std.proofs.lemmas.Option.{slice_get-map, slice_get_read, slice_get-get_or, get_or_from_slice_get}
use Rattle.plcx_types.specs.Lists.{Each}
use Rattle.plcx_meaning.specs.Run as meant
use Rattle.plcx_meaning.specs.Run.{Machine}
use Rattle.plcx_state.specs.Layouts.{Laid, all_meant}
use Rattle.plcx_state.proofs.Eaches.{each_get, each_push}
use Rattle.plcx_scan.specs.Events.{Event, meant_events, CanBeNext}
use Rattle.plcx_scan.specs.Rows.{shown_numbers}
use Rattle.plcx_scan.specs.Sides.{BringsAll, BringsSome, HasLines}
use Rattle.plcx_scan.specs.Events.{last_at_end}
use Rattle.plcx_tasks.specs.declared.rows.TaskRow.{TaskRow}
use Rattle.plcx_tasks.specs.declared.scheduling.Step.{Step}
use Rattle.plcx_tasks.specs.Runs.{place_of, lines_of, HasShown, IsTaskRow, HaveLines, AreBrought, AreBroughtSome, AreLast}
use Rattle.plcx_tasks.specs.Steps.{event_of, own_in, step_place, AreStepsWithin, CanStep}
use Rattle.plcx_tasks.proofs.Advancing.{same_at, AreGoing, IsOver, IsLineOf, goes_on, brought_on, machines_on, laids_on, some_steps, can_come}

-- an item that a loop is at
pub item_of : {X : Type 0} (P : X → Type 0) (xs : List X) (k : ℕ) (x : X) → k < length xs → x ≡ get_or xs k x → Each P xs → P x
item_of P xs k x lt is all = each_get P xs k x (slice_get_read xs (length xs) k x refl lt is) all

-- what stands for a missing item is nothing to one that is there
pub same_item : {X : Type 0} (xs : List X) (k : ℕ) (d : X) → k < length xs → get_or xs k d ≡ get_or xs k (get_or xs k d)
same_item xs k d lt = sym (get_or_from_slice_get xs k (get_or xs k d) (get_or xs k d) (slice_get-get_or xs k d lt))

pub one_more : {X : Type 0} (xs : List X) (k : ℕ) (x : X) → k < length xs → x ≡ get_or xs k x → take (k + 1) xs ≡ take k xs ++ x ∷ []
one_more xs k x lt is = take_more xs k x lt ∙ ap (λ y. take k xs ++ y ∷ []) (sym is)

parts_of : {X : Type 0} (xs : List X) (k : ℕ) (x : X) → k < length xs → x ≡ get_or xs k x → xs ≡ take k xs ++ x ∷ drop (k + 1) xs
parts_of xs k x lt is = sym (take-append-drop k xs) ∙ ap (λ ys. take k xs ++ ys) (drop_more xs k x lt ∙ ap (λ y. y ∷ drop (k + 1) xs) (sym is))

module _ {S G : Type 0} (machine : S → Machine G) (laid : S → Laid) (stands : S → meant.Side G → Type 0) (last : S → ℕ) (turns : ℕ)
    (old now : List S) (steps : List Step) (k : ℕ) (x : Step) (d : S) (rows : List TaskRow) (lt : k < length steps) (is : x ≡ get_or steps k x)
    (within : Each (AreStepsWithin (length old)) steps) (long : length now ≡ length old) (going : AreGoing machine laid stands last turns old now (take k steps) rows) where
  -- the side of the step, and the one that there was first
  abbrev pub side : S
  side = get_or now x.instance d

  abbrev first : S
  first = get_or old x.instance d

  low : x.instance < length old
  low = item_of (AreStepsWithin (length old)) steps k x lt is within

  here : slice_get now x.instance ≡ Some side
  here = let below = low in slice_get-get_or now x.instance d (omega (arith, below, long))

  there : slice_get old x.instance ≡ Some first
  there = slice_get-get_or old x.instance d low

  machine_first : machine side ≡ machine first
  machine_first = same_at machine now old x.instance side first going.machines here there

  laid_first : laid side ≡ laid first
  laid_first = same_at laid now old x.instance side first going.laids here there

  pub can_be_next : CanStep laid last old steps → CanBeNext (laid side).leaves (last side) (event_of x.what)
  can_be_next can =
      can_come laid last old now (take k steps) x (drop (k + 1) steps) side going.laids going.time (subst (CanStep laid last old) (parts_of steps k x lt is) can) here first there

  pub shown_is : (shown : List (List ℕ)) (numbers : List ℕ) → shown ≡ map (λ (s : S). shown_numbers (laid s).leaves) old → numbers ≡ get_or shown x.instance numbers → numbers ≡ shown_numbers (laid side).leaves
  shown_is shown numbers all at =
      let found : slice_get shown x.instance ≡ Some (shown_numbers (laid first).leaves) =
      ap (λ ys. slice_get ys x.instance) all ∙ slice_get-map (λ (s : S). shown_numbers (laid s).leaves) old x.instance ∙ ap (option_map (λ (s : S). shown_numbers (laid s).leaves)) there in
      at ∙ get_or_from_slice_get shown x.instance (shown_numbers (laid first).leaves) numbers found ∙ ap (λ (l : Laid). shown_numbers l.leaves) (sym laid_first)

  pub layout_is : Each (λ (s : S). all_meant (laid s).leaves ≡ (machine s).layout) old → all_meant (laid side).leaves ≡ (machine side).layout
  layout_is all =
      ap (λ (l : Laid). all_meant l.leaves) laid_first ∙ each_get (λ (s : S). all_meant (laid s).leaves ≡ (machine s).layout) old x.instance first there all ∙ ap (λ (m : Machine G). m.layout) (sym machine_first)

  module _ (t : S) (over : IsOver machine laid stands last turns side t x) where
    pub machines_are : map machine (set now x.instance t) ≡ map machine old
    machines_are = machines_on machine laid stands last turns old now (take k steps) rows going x side t here over

    pub laids_are : map laid (set now x.instance t) ≡ map laid old
    laids_are = laids_on machine laid stands last turns old now (take k steps) rows going x side t here over

    pub stopped : AreBroughtSome machine laid stands turns old (set now x.instance t) (own_in steps)
    stopped =
        let whole : steps ≡ (take k steps ++ x ∷ []) ++ drop (k + 1) steps = parts_of steps k x lt is ∙ sym (append_assoc (take k steps) (x ∷ []) (drop (k + 1) steps)) in
        subst (λ (ss : List Step). AreBroughtSome machine laid stands turns old (set now x.instance t) (own_in ss)) (sym whole)
        (some_steps machine laid stands last turns old (set now x.instance t) (take k steps ++ x ∷ []) (drop (k + 1) steps)
        (brought_on machine laid stands last turns old now (take k steps) rows going x side t here over))

    pub going_on : (row : TaskRow) → place_of row ≡ step_place x → IsLineOf machine laid stands last turns side x row → (more : List TaskRow) → more ≡ rows ++ row ∷ []
        → AreGoing machine laid stands last turns old (set now x.instance t) (take (k + 1) steps) more
    going_on row placed line more pushed =
        subst (λ (ss : List Step). AreGoing machine laid stands last turns old (set now x.instance t) ss more) (sym (one_more steps k x lt is))
        (subst (λ (rs : List TaskRow). AreGoing machine laid stands last turns old (set now x.instance t) (take k steps ++ x ∷ []) rs) (sym pushed)
        (goes_on machine laid stands last turns old now (take k steps) rows going x side t here over row (ap (λ (p : ℕ × ℕ). p.1) placed) line))

  pub places_on : (row : TaskRow) → place_of row ≡ step_place x → (more : List TaskRow) → more ≡ rows ++ row ∷ [] → map place_of rows ≡ map step_place (take k steps) → map place_of more ≡ map step_place (take (k + 1) steps)
  places_on row placed more pushed so_far =
      ap (map place_of) pushed ∙ map-append place_of rows (row ∷ []) ∙ ap (λ ps. ps ++ place_of row ∷ []) so_far ∙ ap (λ (p : ℕ × ℕ). map step_place (take k steps) ++ p ∷ []) placed
      ∙ sym (ap (map step_place) (one_more steps k x lt is) ∙ map-append step_place (take k steps) (x ∷ []))

  pub rows_on : (row : TaskRow) → place_of row ≡ step_place x → HasShown (laid side).leaves row → (more : List TaskRow) → more ≡ rows ++ row ∷ [] → Each (IsTaskRow (map laid old)) rows → Each (IsTaskRow (map laid old)) more
  rows_on row placed shows more pushed all =
      subst (Each (IsTaskRow (map laid old))) (sym pushed) (each_push (IsTaskRow (map laid old)) rows row all (record {
        own = laid side;
        there = ap (slice_get (map laid old)) (ap (λ (p : ℕ × ℕ). p.1) placed) ∙ slice_get-map laid old x.instance ∙ ap (option_map laid) there ∙ ap Some (sym laid_first);
        values = shows;
      }))

-- THE SAME BY OTHER LISTS OF EVENTS THAT ARE EQUAL

module _ {S G : Type 0} (machine : S → Machine G) (laid : S → Laid) (stands : S → meant.Side G → Type 0) (turns : ℕ) (own other : ℕ → List Event) (same : (i : ℕ) → own i ≡ other i) where
  pub lines_as : (old : List S) (rows : List TaskRow) → HaveLines machine laid stands turns old own rows → HaveLines machine laid stands turns old other rows
  lines_as old rows have i s there = subst (λ (es : List Event). HasLines (machine s) turns (meant_events (laid s).leaves es) (stands s) (lines_of i rows)) (same i) (have i s there)

  pub brought_as : (old new : List S) → AreBrought machine laid stands turns old new own → AreBrought machine laid stands turns old new other
  brought_as old new are i s t here there = subst (λ (es : List Event). BringsAll (machine s) turns (meant_events (laid s).leaves es) (stands s) (stands t)) (same i) (are i s t here there)

  pub some_as : (old new : List S) → AreBroughtSome machine laid stands turns old new own → AreBroughtSome machine laid stands turns old new other
  some_as old new are i s t here there = subst (λ (es : List Event). BringsSome (machine s) turns (meant_events (laid s).leaves es) (stands s) (stands t)) (same i) (are i s t here there)

pub last_as : {S : Type 0} (laid : S → Laid) (last : S → ℕ) (own other : ℕ → List Event) → ((i : ℕ) → own i ≡ other i) → (old new : List S) → AreLast laid last old new own → AreLast laid last old new other
last_as laid last own other same old new are i s t here there = are i s t here there ∙ ap (last_at_end (last s)) (same i)
