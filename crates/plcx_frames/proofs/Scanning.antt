-- What is the same of the scans of all sides.
use Rattle.std.proofs.Common.{◌≡◌, ℕ, zero, suc, ◌<◌, ◌≤◌, Bool, true, false, List, [], ◌∷◌, Some, length, slice_get, refl, ap, arith}
use Rattle.std.specs.Prelude.{is_err, if◌then◌else◌}
use Rattle.std.specs.declared.result.Result.{Result}
use Rattle.std.specs.declared.result.Result.TheVariants.{Ok, Err}
use Rattle.plcx_meaning.specs.Base.{Outcome, Ended, Stopped, Stuck}
use Rattle.plcx_meaning.specs.Run.{Scan, Machine, after, side_after}
use Rattle.plcx_meaning.specs.Run as meant
use Rattle.plcx_meaning.specs.Run.{Side as Meant}
use Rattle.plcx_steps.specs.declared.state.Stop.{Stop}
use Rattle.plcx_stored.specs.Between.{is_stopped}

-- there is an item at each place of a list
pub there_is : {A : Type 0} (xs : List A) (i : ℕ) → i < length xs → (x : A) × (slice_get xs i ≡ Some x)
there_is [] i h = absurd (omega arith)
there_is (x ∷ xs) zero h = (x, refl)
there_is (x ∷ xs) (suc i) h = there_is xs i (omega arith)

-- lists that are the same are as long
pub as_long : {A : Type 0} (xs ys : List A) → xs ≡ ys → length ys ≤ length xs
as_long xs ys e = let same = ap length e in omega arith

-- a result is an error where the scan stopped
pub stopped_is : (result : Result (Unit {0}) Stop) → is_stopped result ≡ is_err result
stopped_is (Ok u) = refl
stopped_is (Err e) = refl

-- the time of the last scan after a scan
pub last_is : {G : Type 0} (m : Machine G) (turns time : ℕ) (inputs : List meant.Input) (g : Meant G) → (after m turns (Scan time inputs) g).last ≡ time
last_is {G} m turns time inputs g = by g.halted (m.scan turns time inputs g.state)
  where
    by : (b : Bool) (o : Outcome G (Unit {0})) → (if b then record g { last = time } else side_after time g.state o).last ≡ time
    by true o = refl
    by false (Ended s u) = refl
    by false (Stopped c s) = refl
    by false Stuck = refl
