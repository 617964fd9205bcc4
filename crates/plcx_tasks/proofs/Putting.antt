-- What is kept for instances, one input or one instance more.
use Rattle.std.proofs.Common.{◌≡◌, ◌<◌, ◌+◌, ◌∙◌, ℕ, Bool, true, false, nat_eq, List, [], ◌∷◌, ◌++◌, Option, Some, map, take, set, length, get_or, refl, sym, ap, arith, if◌then◌else◌}
use Rattle.std.specs.Prelude.{slice_get}
use Rattle.std.proofs.lemmas.Bool.{eqb-true, eqb-false}
use Rattle.std.proofs.lemmas.List.{take_more, map-append}
use Rattle.std.proofs.lemmas.Option.{slice_get_read, slice_get-get_or, get_or_from_slice_get}
use Rattle.indexmap.specs.IndexMap.{insert_entry}
use Rattle.plcx_types.specs.Value.{Value}
use Rattle.plcx_scan.specs.declared.event.Input.{Input}
use Rattle.plcx_tasks.specs.declared.ticking.TaskInput.{TaskInput}
use Rattle.plcx_tasks.specs.declared.ranking.Rank.{Rank}
use Rattle.plcx_tasks.specs.Tasks.{input_of, with_input, given}
use Rattle.plcx_tasks.specs.Steps.{entry_input, entry_inputs, is_set, left_behind}
use Rattle.plcx_tasks.proofs.Keeping.{given_more}
use Rattle.plcx_tasks.proofs.Advancing.{set_same, set_other, set_length}

-- TABLES BY LEAVES

the_input : ℕ → Value → Input
the_input leaf v = record { leaf = leaf; value = v }

put_if : (b : Bool) (leaf : ℕ) (v : Value) (e : ℕ × Value) (es more : List (ℕ × Value)) (rest : List Input) → map entry_input more ≡ rest
    → map entry_input (if b then (e.0, v) ∷ es else e ∷ more) ≡ (if b then record (entry_input e) { value = v } ∷ map entry_input es else entry_input e ∷ rest)
put_if true leaf v e es more rest is = refl
put_if false leaf v e es more rest is = ap (λ (ins : List Input). entry_input e ∷ ins) is

pub put_is : (x : TaskInput) (es : List (ℕ × Value)) → map entry_input (insert_entry nat_eq es x.leaf x.value) ≡ with_input (map entry_input es) (input_of x)
put_is x [] = refl
put_is x (e ∷ es) = put_if (nat_eq x.leaf e.0) x.leaf x.value e es (insert_entry nat_eq es x.leaf x.value) (with_input (map entry_input es) (input_of x)) (put_is x es)

entry_at : (es : List (ℕ × Value)) (k : ℕ) (e : ℕ × Value) → k < length es → slice_get es k ≡ Some e → map entry_input (take (k + 1) es) ≡ map entry_input (take k es) ++ entry_inputs (slice_get es k)
entry_at es k e lt there =
    ap (map entry_input) (take_more es k e lt ∙ ap (λ (x : ℕ × Value). take k es ++ x ∷ []) (get_or_from_slice_get es k e e there))
    ∙ map-append entry_input (take k es) (e ∷ []) ∙ ap (λ (o : Option (ℕ × Value)). map entry_input (take k es) ++ entry_inputs o) (sym there)

pub entry_more : (es : List (ℕ × Value)) (k : ℕ) → k < length es → map entry_input (take (k + 1) es) ≡ map entry_input (take k es) ++ entry_inputs (slice_get es k)
entry_more [] k lt = absurd (omega (arith, lt))
entry_more (e ∷ es) k lt = entry_at (e ∷ es) k (get_or (e ∷ es) k e) lt (slice_get-get_or (e ∷ es) k e lt)

-- INPUTS OF A TICK

module _ (old now : List (List Input)) (xs : List TaskInput) (k : ℕ) (x : TaskInput) (own fresh : List Input) (low : x.instance < length now) (lt : k < length xs) (is : x ≡ get_or xs k x)
    (own_is : own ≡ get_or now x.instance own) (fresh_is : fresh ≡ with_input own (input_of x))
    (kept : (i : ℕ) (past : List Input) → slice_get old i ≡ Some past → slice_get now i ≡ Some (given i past (take k xs))) where
  step_at : (i : ℕ) (past : List Input) → slice_get old i ≡ Some past → (b : Bool) → nat_eq x.instance i ≡ b
      → slice_get (set now x.instance fresh) i ≡ Some (if b then with_input (given i past (take k xs)) (input_of x) else given i past (take k xs))
  step_at i past there true at =
      let here : x.instance ≡ i = eqb-true x.instance i at in
      let both : Some own ≡ Some (given i past (take k xs)) = sym (slice_get_read now (length now) x.instance own refl low own_is) ∙ ap (slice_get now) here ∙ kept i past there in
      let same : own ≡ given i past (take k xs) = cc in
      ap (slice_get (set now x.instance fresh)) (sym here) ∙ set_same now x.instance fresh low ∙ ap Some (fresh_is ∙ ap (λ (ins : List Input). with_input ins (input_of x)) same)
  step_at i past there false at = set_other now x.instance i fresh (eqb-false x.instance i at) ∙ kept i past there

  pub input_taken : (i : ℕ) (past : List Input) → slice_get old i ≡ Some past → slice_get (set now x.instance fresh) i ≡ Some (given i past (take (k + 1) xs))
  input_taken i past there =
      step_at i past there (nat_eq x.instance i) refl
      ∙ ap Some (sym (ap (given i past) (take_more xs k x lt ∙ ap (λ (y : TaskInput). take k xs ++ y ∷ []) (sym is)) ∙ given_more i past (take k xs) x))

-- WHAT IS CLEARED

left_more : (due : List Bool) (i : ℕ) (past : List Input) (rs : List Rank) (r : Rank)
    → left_behind due i past (rs ++ r ∷ []) ≡ (if nat_eq r.instance i then (if is_set (slice_get due r.task) then [] else left_behind due i past rs) else left_behind due i past rs)
left_more due i past [] r = refl
left_more due i past (y ∷ rs) r = left_more due i (if nat_eq y.instance i then (if is_set (slice_get due y.task) then [] else past) else past) rs r

cleared_at : (now : List (List Input)) (instance i : ℕ) (left : List Input) → instance < length now → slice_get now i ≡ Some left → (b e : Bool) → nat_eq instance i ≡ e
    → slice_get (if b then set now instance [] else now) i ≡ Some (if e then (if b then [] else left) else left)
cleared_at now instance i left low there true true is = ap (slice_get (set now instance [])) (sym (eqb-true instance i is)) ∙ set_same now instance [] low
cleared_at now instance i left low there true false is = set_other now instance i [] (eqb-false instance i is) ∙ there
cleared_at now instance i left low there false true is = there
cleared_at now instance i left low there false false is = there

pub one_cleared : (old now after : List (List Input)) (due : List Bool) (rs : List Rank) (k : ℕ) (r : Rank) (b : Bool) → r.instance < length now → k < length rs → r ≡ get_or rs k r → b ≡ is_set (slice_get due r.task)
    → after ≡ (if b then set now r.instance [] else now) → ((i : ℕ) (past : List Input) → slice_get old i ≡ Some past → slice_get now i ≡ Some (left_behind due i past (take k rs)))
    → (i : ℕ) (past : List Input) → slice_get old i ≡ Some past → slice_get after i ≡ Some (left_behind due i past (take (k + 1) rs))
one_cleared old now after due rs k r b low lt is b_is after_is kept i past there =
    let left = left_behind due i past (take k rs) in
    ap (λ (xs : List (List Input)). slice_get xs i) after_is ∙ cleared_at now r.instance i left low (kept i past there) b (nat_eq r.instance i) refl
    ∙ ap Some (ap (λ (c : Bool). if nat_eq r.instance i then (if c then [] else left) else left) b_is ∙ sym (left_more due i past (take k rs) r)
    ∙ ap (left_behind due i past) (sym (take_more rs k r lt ∙ ap (λ (y : Rank). take k rs ++ y ∷ []) (sym is))))

pub cleared_long : (now : List (List Input)) (i : ℕ) (b : Bool) → length (if b then set now i [] else now) ≡ length now
cleared_long now i true = set_length now i []
cleared_long now i false = refl
