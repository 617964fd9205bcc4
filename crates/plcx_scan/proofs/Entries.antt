-- Events as they are kept: one more behind the others, and one after another from the front.
use Rattle.std.proofs.Common.{◌≡◌, ◌<◌, ◌≤◌, ◌+◌, ◌∷◌, ◌++◌, ◌∙◌, ℕ, zero, suc, List, [], take, drop, length, get_or, refl, sym, ap, ap₂, arith, length-drop}
use Rattle.std.proofs.Math.Seq.{take-length}
use Rattle.std.proofs.lemmas.List.{take-append-le, drop-append-le, drop_more, nil_from_length}
use Rattle.plcx_scan.specs.declared.event.Entry.{Entry}
use Rattle.plcx_scan.specs.declared.event.Input.{Input}
use Rattle.plcx_scan.specs.Events.{Event}
use Rattle.plcx_scan.specs.Entries.{count_of, event_of, count_all, events_of}

pub count_push : (es : List Entry) (e : Entry) → count_all (es ++ e ∷ []) ≡ count_all es + count_of e
count_push [] e = omega arith
count_push (d ∷ es) e = let h = count_push es e in omega arith

-- one event more
pub events_push : (es : List Entry) (e : Entry) (xs ys : List Input) → count_all es ≡ length xs → length ys ≡ count_of e → events_of (es ++ e ∷ []) (xs ++ ys) ≡ events_of es xs ++ event_of e ys ∷ []
events_push [] e xs ys all one =
    let none : xs ≡ [] = nil_from_length xs (sym all) in
    ap (λ (zs : List Input). event_of e (take (count_of e) (zs ++ ys)) ∷ []) none
    ∙ ap (λ n. event_of e (take n ys) ∷ []) (sym one)
    ∙ ap (λ (zs : List Input). event_of e zs ∷ []) (take-length ys)
events_push (d ∷ es) e xs ys all one =
    let fits : count_of d ≤ length xs = omega arith in
    let rest : count_all es ≡ length (drop (count_of d) xs) = omega (arith, length-drop (count_of d) xs) in
    ap₂ (λ (own others : List Input). event_of d own ∷ events_of (es ++ e ∷ []) others) (take-append-le (count_of d) xs ys fits) (drop-append-le (count_of d) xs ys fits)
    ∙ ap (λ (t : List Event). event_of d (take (count_of d) xs) ∷ t) (events_push es e (drop (count_of d) xs) ys rest one)

-- the first of what is left of a list is the item at that place
pub record AtPlace {A : Type 0} (xs rest : List A) (i : ℕ) (x : A) : Type 0 where
  pub there : i < length xs
  pub is : x ≡ get_or xs i x
  pub behind : drop (i + 1) xs ≡ rest

pub at_place : {A : Type 0} (xs rest : List A) (i : ℕ) (x : A) → drop i xs ≡ x ∷ rest → AtPlace xs rest i x
at_place [] rest zero x h = absurd (cc)
at_place [] rest (suc i) x h = absurd (cc)
at_place (y ∷ ys) rest zero x h = record { there = omega arith; is = cc; behind = cc }
at_place (y ∷ ys) rest (suc i) x h =
    let more = at_place ys rest i x h in
    record { there = (let lt = more.there in omega arith); is = more.is; behind = (let e : suc i + 1 ≡ suc (i + 1) = omega arith in ap (λ n. drop n (y ∷ ys)) e ∙ more.behind) }

-- what is kept of the events from a place on
pub record AreLeft (events : List Event) (entries : List Entry) (inputs : List Input) (i : ℕ) : Type 0 where
  pub events_are : drop i events ≡ events_of (drop i entries) inputs
  pub counted : count_all (drop i entries) ≡ length inputs

-- the next of them, which takes its own inputs and leaves the others
module _ (events : List Event) (entries : List Entry) (inputs : List Input) (i : ℕ) (d : Entry) (lt : i < length entries) (left : AreLeft events entries inputs i) (n : ℕ) (n_is : n ≡ count_of (get_or entries i d)) where
  front : drop i entries ≡ get_or entries i d ∷ drop (i + 1) entries
  front = drop_more entries i d lt

  counted : n + count_all (drop (i + 1) entries) ≡ length inputs
  counted = ap (λ k. k + count_all (drop (i + 1) entries)) n_is ∙ sym (ap count_all front) ∙ left.counted

  events_next : drop i events ≡ event_of (get_or entries i d) (take n inputs) ∷ events_of (drop (i + 1) entries) (drop n inputs)
  events_next =
      left.events_are ∙ ap (λ (es : List Entry). events_of es inputs) front
      ∙ ap (λ k. event_of (get_or entries i d) (take k inputs) ∷ events_of (drop (i + 1) entries) (drop k inputs)) (sym n_is)

  pub inputs_fit : n ≤ length inputs
  inputs_fit = let h = counted in omega arith

  pub event_here : (own : List Input) → own ≡ take n inputs → AtPlace events (events_of (drop (i + 1) entries) (drop n inputs)) i (event_of (get_or entries i d) own)
  event_here own own_is =
      at_place events (events_of (drop (i + 1) entries) (drop n inputs)) i (event_of (get_or entries i d) own)
      (events_next ∙ ap (λ (is : List Input). event_of (get_or entries i d) is ∷ events_of (drop (i + 1) entries) (drop n inputs)) (sym own_is))

  pub others_left : (others : List Input) → others ≡ drop n inputs → AreLeft events entries others (i + 1)
  others_left others others_are = record {
    events_are = (event_here (take n inputs) refl).behind ∙ ap (events_of (drop (i + 1) entries)) (sym others_are);
    counted = (let h = counted in omega (arith, length-drop n inputs, ap length others_are));
  }

events_long : (entries : List Entry) (inputs : List Input) → length (events_of entries inputs) ≡ length entries
events_long [] inputs = refl
events_long (e ∷ es) inputs = ap suc (events_long es (drop (count_of e) inputs))

-- behind the last entry there are all events
pub all_events : (events : List Event) (entries items : List Entry) (inputs : List Input) (i : ℕ) → events_of entries inputs ≡ events → items ≡ entries → i ≤ length items → length items ≤ i → take i events ≡ events
all_events events entries items inputs i are same le ge =
    let long : i ≡ length events = omega (arith, events_long entries inputs, ap length are, ap length same) in
    ap (λ n. take n events) long ∙ take-length events
