-- SR and RS over their calls.
use Rattle.std.proofs.Common.{◌≡◌, Bool, true, false, not, ◌&&◌, ◌||◌, List, [], ◌∷◌, refl, ap, ◌∙◌}
use Rattle.std.specs.List.{list_any, list_all}
use Rattle.plcx_std.specs.History.{LatchCall, last_run, sr_shows, rs_shows}
use Rattle.plcx_std.specs.Calls.{after_sr, after_rs}

swapped : (r any every : Bool) → (not r && (any && every)) ≡ (any && (not r && every))
swapped true true every = refl
swapped true false every = refl
swapped false any every = refl

sr_step : (s r : Bool) (earlier : List LatchCall) → (s || (not r && sr_shows earlier)) ≡ sr_shows (record { set = s; reset = r } ∷ earlier)
sr_step true r earlier = refl
sr_step false r earlier = swapped r (list_any (λ c. c.set) earlier) (list_all (λ c. not c.reset) (last_run (λ c. not c.set) earlier))

pub sr_law : (calls : List LatchCall) → (after_sr calls).output ≡ sr_shows calls
sr_law [] = refl
sr_law (c ∷ earlier) = ap (λ q. c.set || (not c.reset && q)) (sr_law earlier) ∙ sr_step c.set c.reset earlier

rs_step : (s r : Bool) (earlier : List LatchCall) → (not r && (s || rs_shows earlier)) ≡ rs_shows (record { set = s; reset = r } ∷ earlier)
rs_step true true earlier = refl
rs_step false true earlier = refl
rs_step true false earlier = refl
rs_step false false earlier = refl

pub rs_law : (calls : List LatchCall) → (after_rs calls).output ≡ rs_shows calls
rs_law [] = refl
rs_law (c ∷ earlier) = ap (λ q. not c.reset && (c.set || q)) (rs_law earlier) ∙ rs_step c.set c.reset earlier
