-- No piece of a scan makes more turns: what holds of the pieces of either side.
use Rattle.std.proofs.Common.{◌≡◌, ◌≤◌, ℕ, zero, suc, Bool, true, false, Option, Some, None, refl, arith, if◌then◌else◌}
use Rattle.plcx_meaning.specs.Base.{Stop, OutOfTurns, Outcome, Ended, Stopped, Stuck, then_do, spend, found}
use Rattle.plcx_meaning.specs.Turns.{LeavesAtMost}

pub record Lowers {G L : Type 0} (left : G → ℕ) (n : ℕ) (o : Outcome G L) : Type 0 where
  pub is : LeavesAtMost left n o

module _ {G : Type 0} (left : G → ℕ) where
  pub lowers_end : {L : Type 0} (n : ℕ) (g : G) (l : L) → left g ≤ n → Lowers left n (Ended g l)
  lowers_end n g l h = record { is = h }

  pub lowers_stop : {L : Type 0} (n : ℕ) (s : Stop) (g : G) → left g ≤ n → Lowers {L = L} left n (Stopped s g)
  lowers_stop n s g h = record { is = h }

  pub lowers_stuck : {L : Type 0} (n : ℕ) → Lowers {L = L} left n Stuck
  lowers_stuck n = record { is = tt }

  pub lowers_then : {L K : Type 0} (n : ℕ) (o : Outcome G L) (go : G → L → Outcome G K) → Lowers left n o → ((g : G) (l : L) → left g ≤ n → Lowers left n (go g l)) → Lowers left n (then_do o go)
  lowers_then n (Ended g l) go a more = more g l a.is
  lowers_then n (Stopped s g) go a more = record { is = a.is }
  lowers_then n Stuck go a more = record { is = tt }

  pub lowers_more : {L : Type 0} (m n : ℕ) (o : Outcome G L) → m ≤ n → Lowers left m o → Lowers left n o
  lowers_more m n (Ended g l) le a = let h = a.is in record { is = omega arith }
  lowers_more m n (Stopped s g) le a = let h = a.is in record { is = omega arith }
  lowers_more m n Stuck le a = record { is = tt }

  pub lowers_if : {L : Type 0} (n : ℕ) (b : Bool) (o p : Outcome G L) → Lowers left n o → Lowers left n p → Lowers left n (if b then o else p)
  lowers_if n true o p h k = h
  lowers_if n false o p h k = k

  pub lowers_found : {A L : Type 0} (n : ℕ) (x : Option A) (go : A → Outcome G L) → ((a : A) → Lowers left n (go a)) → Lowers left n (found x go)
  lowers_found n None go h = record { is = tt }
  lowers_found n (Some a) go h = h a

  pub lowers_spend : {L : Type 0} (m n : ℕ) (g : G) (go : ℕ → Outcome G L) → left g ≤ n → ((j : ℕ) → suc j ≤ m → Lowers left n (go j)) → Lowers left n (spend m g go)
  lowers_spend zero n g go le h = record { is = le }
  lowers_spend (suc m) n g go le h = h m (omega arith)

  -- pieces that are the same where so many turns are left at most
  pub spend_zero : {L : Type 0} (n : ℕ) (g : G) (go : ℕ → Outcome G L) → n ≤ 0 → spend n g go ≡ Stopped OutOfTurns g
  spend_zero zero g go h = refl
  spend_zero (suc n) g go h = absurd (omega arith)

  pub spend_same : {L : Type 0} (n : ℕ) (g : G) (go to : ℕ → Outcome G L) → ((j : ℕ) → suc j ≤ n → go j ≡ to j) → spend n g go ≡ spend n g to
  spend_same zero g go to h = refl
  spend_same (suc n) g go to h = h n (omega arith)

  pub then_same : {L K : Type 0} (j : ℕ) (o : Outcome G L) (go to : G → L → Outcome G K) → Lowers left j o → ((g : G) (l : L) → left g ≤ j → go g l ≡ to g l) → then_do o go ≡ then_do o to
  then_same j (Ended g l) go to a same = same g l a.is
  then_same j (Stopped s g) go to a same = refl
  then_same j Stuck go to a same = refl
