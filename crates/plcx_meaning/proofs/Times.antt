-- The time of the last scan.
use Rattle.std.proofs.Common.{◌≡◌, ℕ, Bool, true, false, refl, if◌then◌else◌}
use Rattle.plcx_meaning.specs.Base.{Outcome, Ended, Stopped, Stuck}
use Rattle.plcx_meaning.specs.Run.{Event, Scan, Again, Machine, Side, side_after, after, last_after}

of_outcome : {G : Type 0} (time : ℕ) (old : G) (o : Outcome G (Unit {0})) → (side_after time old o).last ≡ time
of_outcome time old (Ended g u) = refl
of_outcome time old (Stopped s g) = refl
of_outcome time old Stuck = refl

pub time_of_scan : {G : Type 0} (m : Machine G) (turns : ℕ) (e : Event) (s : Side G) → (after m turns e s).last ≡ last_after s.last e
time_of_scan {G} m turns (Scan time inputs) s = by s.halted
  where
    by : (b : Bool) → (if b then record s { last = time } else side_after {G = G} time s.state (m.scan turns time inputs s.state)).last ≡ time
    by true = refl
    by false = of_outcome time s.state (m.scan turns time inputs s.state)
time_of_scan m turns (Again r) s = refl
