-- Pulses told one call after another, and that they are those of the whole list of calls.
use Rattle.std.proofs.Common.{◌≡◌, Bool, true, false, ◌&&◌, List, [], ◌∷◌, ◌++◌, refl, ap, ◌∙◌, sym, ℤ, pos, ◌-ℤ◌, Option, Some, None}
use Rattle.std.specs.Prelude.{if◌then◌else◌, int_lt, is_some, is_none}
use Rattle.std.specs.List.{list_all}
use Rattle.plcx_std.specs.Step.{limit}
use Rattle.plcx_std.specs.History.{TimerCall, Shown, was, rose, starts, all_within, open_pulse, after_pulse, shown_of_pulse, tp_shows}

-- the start of the pulse that begins at a call, if the input rises there and the limit is above 0
abbrev pub begun_pulse : TimerCall → Bool → Option ℤ
begun_pulse c rises = if rises && int_lt (pos 0) (limit c.preset) then Some c.time else None

-- a pulse stays open while the time since its start is below the limit; where none does, one may begin
abbrev pub next_pulse : Option ℤ → TimerCall → Bool → Option ℤ
next_pulse None c rises = begun_pulse c rises
next_pulse (Some start) c rises = if int_lt (c.time -ℤ start) (limit c.preset) then Some start else begun_pulse c rises

-- the start of the pulse that begins or is open at the last call
abbrev pub pulse : List TimerCall → Option ℤ
pulse [] = None
pulse (c ∷ earlier) = next_pulse (pulse earlier) c (rose (λ d. d.input) (c ∷ earlier))

-- the limit at the call where the latest pulse was no longer open, and later what was shown before
abbrev pub pulse_limit : Option ℤ → TimerCall → ℤ → ℤ
pulse_limit (Some start) c before = limit c.preset
pulse_limit None c before = before

abbrev pub rest_after : List TimerCall → ℤ
rest_after [] = pos 0
rest_after (c ∷ earlier) = if c.input && was (λ d. d.input) earlier then pulse_limit (pulse earlier) c (rest_after earlier) else pos 0

abbrev pub shows_by_steps : List TimerCall → Shown
shows_by_steps [] = record { output = false; elapsed = pos 0 }
shows_by_steps (c ∷ earlier) = shown_of_pulse c.time (pulse (c ∷ earlier)) (rest_after (c ∷ earlier))

-- a pulse that is still open at the calls that follow
abbrev still : List TimerCall → Option ℤ → Option ℤ
still following None = None
still following (Some start) = if all_within start following then Some start else None

and_assoc : (a b c : Bool) → (a && (b && c)) ≡ ((a && b) && c)
and_assoc true b c = refl
and_assoc false b c = refl

all_behind : {A : Type 0} (p : A → Bool) (xs ys : List A) → list_all p (xs ++ ys) ≡ (list_all p xs && list_all p ys)
all_behind p [] ys = refl
all_behind p (x ∷ xs) ys = ap (λ b. p x && b) (all_behind p xs ys) ∙ and_assoc (p x) (list_all p xs) (list_all p ys)

-- no pulse was open
none_step : (r p : Bool) (following : List TimerCall) (time : ℤ) → (if (r && (p && true)) && all_within time following then Some time else None) ≡ still following (if r && p then Some time else None)
none_step true true following time = refl
none_step true false following time = refl
none_step false p following time = refl

kept : (r p a b : Bool) (time start : ℤ) → (if (r && (p && false)) && a then Some time else if b && true then Some start else None) ≡ (if b then Some start else None)
kept true true a true time start = refl
kept true true a false time start = refl
kept true false a true time start = refl
kept true false a false time start = refl
kept false p a true time start = refl
kept false p a false time start = refl

ended : (r p b : Bool) (following : List TimerCall) (time start : ℤ) → (if (r && (p && true)) && all_within time following then Some time else if b && false then Some start else None) ≡ still following (if r && p then Some time else None)
ended r p true following time start = none_step r p following time
ended r p false following time start = none_step r p following time

-- a pulse was open, and is or is not within its limit
some_step : (r p w : Bool) (following : List TimerCall) (time start : ℤ) → (if (r && (p && is_none (if w && true then Some start else None))) && all_within time following then Some time else if all_within start following && (w && true) then Some start else None) ≡ still following (if w then Some start else if r && p then Some time else None)
some_step r p true following time start = kept r p (all_within time following) (all_within start following) time start
some_step r p false following time start = ended r p (all_within start following) following time start

one_step : (following : List TimerCall) (c : TimerCall) (r : Bool) (before : Option ℤ) → (if starts c r (still (c ∷ []) before) && all_within c.time following then Some c.time else still (following ++ (c ∷ [])) before) ≡ still following (next_pulse before c r)
one_step following c r None = none_step r (int_lt (pos 0) (limit c.preset)) following c.time
one_step following c r (Some start) =
    ap (λ b. if starts c r (still (c ∷ []) (Some start)) && all_within c.time following then Some c.time else if b then Some start else None) (all_behind (λ d. int_lt (d.time -ℤ start) (limit d.preset)) following (c ∷ []))
    ∙ some_step r (int_lt (pos 0) (limit c.preset)) (int_lt (c.time -ℤ start) (limit c.preset)) following c.time start

pulse_told : (following calls : List TimerCall) → open_pulse following calls ≡ still following (pulse calls)
pulse_told following [] = refl
pulse_told following (c ∷ earlier) =
    ap (λ o. if starts c (rose (λ d. d.input) (c ∷ earlier)) o && all_within c.time following then Some c.time else open_pulse (following ++ (c ∷ [])) earlier) (pulse_told (c ∷ []) earlier)
    ∙ (ap (λ o. if starts c (rose (λ d. d.input) (c ∷ earlier)) (still (c ∷ []) (pulse earlier)) && all_within c.time following then Some c.time else o) (pulse_told (following ++ (c ∷ [])) earlier)
    ∙ one_step following c (rose (λ d. d.input) (c ∷ earlier)) (pulse earlier))

still_now : (o : Option ℤ) → still [] o ≡ o
still_now None = refl
still_now (Some start) = refl

pulse_now : (calls : List TimerCall) → open_pulse [] calls ≡ pulse calls
pulse_now calls = pulse_told [] calls ∙ still_now (pulse calls)

-- what the calls that follow leave of a rest
abbrev rest_kept : List TimerCall → ℤ → ℤ
rest_kept following rest = if list_all (λ d. d.input) following then rest else pos 0

no_rest : (i w : Bool) (rest : ℤ) → (if i then (if i && w then rest else pos 0) else pos 0) ≡ (if i && w then rest else pos 0)
no_rest true w rest = refl
no_rest false w rest = refl

rest_if_was : (calls : List TimerCall) → (if was (λ d. d.input) calls then rest_after calls else pos 0) ≡ rest_after calls
rest_if_was [] = refl
rest_if_was (c ∷ earlier) = no_rest c.input (was (λ d. d.input) earlier) (pulse_limit (pulse earlier) c (rest_after earlier))

nothing_kept : (b : Bool) → pos 0 ≡ (if b then pos 0 else pos 0)
nothing_kept true = refl
nothing_kept false = refl

rest_step : (f i w : Bool) (before : Option ℤ) (c : TimerCall) (rest : ℤ) → (if w then rest else pos 0) ≡ rest → (if is_some before then (if (f && (i && true)) && w then limit c.preset else pos 0) else if f && (i && true) then rest else pos 0) ≡ (if f then (if i && w then pulse_limit before c rest else pos 0) else pos 0)
rest_step true true w None c rest h = sym h
rest_step true false w None c rest h = refl
rest_step false i w None c rest h = refl
rest_step true true w (Some start) c rest h = refl
rest_step true false w (Some start) c rest h = refl
rest_step false i w (Some start) c rest h = refl

rest_told : (following calls : List TimerCall) → after_pulse following calls ≡ rest_kept following (rest_after calls)
rest_told following [] = nothing_kept (list_all (λ d. d.input) following)
rest_told following (c ∷ earlier) =
    ap (λ o. if is_some o then (if list_all (λ d. d.input) (following ++ (c ∷ [])) && was (λ d. d.input) earlier then limit c.preset else pos 0) else after_pulse (following ++ (c ∷ [])) earlier) (pulse_now earlier)
    ∙ (ap (λ r. if is_some (pulse earlier) then (if list_all (λ d. d.input) (following ++ (c ∷ [])) && was (λ d. d.input) earlier then limit c.preset else pos 0) else r) (rest_told (following ++ (c ∷ [])) earlier)
    ∙ (ap (λ b. if is_some (pulse earlier) then (if b && was (λ d. d.input) earlier then limit c.preset else pos 0) else if b then rest_after earlier else pos 0) (all_behind (λ d. d.input) following (c ∷ []))
    ∙ rest_step (list_all (λ d. d.input) following) c.input (was (λ d. d.input) earlier) (pulse earlier) c (rest_after earlier) (rest_if_was earlier)))

pub shows_as_told : (calls : List TimerCall) → shows_by_steps calls ≡ tp_shows calls
shows_as_told [] = refl
shows_as_told (c ∷ earlier) =
    ap (λ o. shown_of_pulse c.time o (rest_after (c ∷ earlier))) (sym (pulse_now (c ∷ earlier)))
    ∙ ap (λ r. shown_of_pulse c.time (open_pulse [] (c ∷ earlier)) r) (sym (rest_told [] (c ∷ earlier)))
