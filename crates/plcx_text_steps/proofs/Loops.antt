-- The loops of the scan, over plain lists.
use Rattle.std.proofs.Common.{◌≡◌, ℕ, zero, suc, ◌-◌, ◌≤◌, Bool, true, false, List, refl, sym, ap, ◌∙◌, arith}
use Rattle.std.specs.Prelude.{if◌then◌else◌}
use Rattle.plcx_types.specs.Value.{Value}
use Rattle.plcx_meaning.specs.Base.{Stop as Cause, OutOfTurns, Outcome, Ended, Stopped, then_do, spend}
use Rattle.plcx_text_steps.specs.Numbered.{Numbers, turns}

-- a piece of a scan with wires
abbrev pub Piece : Type 0
Piece = Numbers → List Value → Outcome Numbers (List Value)

module _ (before : Piece) (test : Numbers → List Value → Bool) (body : Piece) where
  -- a loop goes on from here to the outcome o, with some count of turns that is enough
  pub record GoesTo (n : Numbers) (ws : List Value) (o : Outcome Numbers (List Value)) : Type 0 where
    pub fuel : ℕ
    pub enough : n.left ≤ fuel
    pub is : turns fuel before test body n ws ≡ o

  -- what follows at the test, with so many turns at most
  abbrev at_test : ℕ → Piece
  at_test zero m vs = if test m vs then Stopped OutOfTurns m else Ended m vs
  at_test (suc fuel) m vs = if test m vs then spend m.left m (λ left. then_do (body (record m { left = left }) vs) (turns fuel before test body)) else Ended m vs

  to_test : (fuel : ℕ) (n : Numbers) (ws : List Value) → turns fuel before test body n ws ≡ then_do (before n ws) (at_test fuel)
  to_test zero n ws = refl
  to_test (suc fuel) n ws = refl

  -- what comes before the test stops
  pub goes_wrong : (n m : Numbers) (ws : List Value) (s : Cause) (o : Outcome Numbers (List Value)) → GoesTo n ws o → Stopped s m ≡ before n ws → Stopped s m ≡ o
  goes_wrong n m ws s o r e = ap (λ q. then_do q (at_test r.fuel)) e ∙ sym (to_test r.fuel n ws) ∙ r.is

  -- the test is FALSE
  pub goes_out : (n m : Numbers) (ws vs : List Value) (o : Outcome Numbers (List Value)) → GoesTo n ws o → Ended m vs ≡ before n ws → test m vs ≡ false → Ended m vs ≡ o
  goes_out n m ws vs o r e off = sym (ends r.fuel) ∙ ap (λ q. then_do q (at_test r.fuel)) e ∙ sym (to_test r.fuel n ws) ∙ r.is
    where
      ends : (fuel : ℕ) → at_test fuel m vs ≡ Ended m vs
      ends zero = ap (λ b. if b then Stopped OutOfTurns m else Ended m vs) off
      ends (suc fuel) = ap (λ b. if b then spend m.left m (λ left. then_do (body (record m { left = left }) vs) (turns fuel before test body)) else Ended m vs) off

  -- the test is TRUE, and no turn is left
  pub goes_dry : (n m : Numbers) (ws vs : List Value) (o : Outcome Numbers (List Value)) → GoesTo n ws o → Ended m vs ≡ before n ws → test m vs ≡ true → m.left ≡ 0 → Stopped OutOfTurns m ≡ o
  goes_dry n m ws vs o r e on none = sym (stops r.fuel) ∙ ap (λ q. then_do q (at_test r.fuel)) e ∙ sym (to_test r.fuel n ws) ∙ r.is
    where
      stops : (fuel : ℕ) → at_test fuel m vs ≡ Stopped OutOfTurns m
      stops zero = ap (λ b. if b then Stopped OutOfTurns m else Ended m vs) on
      stops (suc fuel) =
          ap (λ b. if b then spend m.left m (λ left. then_do (body (record m { left = left }) vs) (turns fuel before test body)) else Ended m vs) on
          ∙ ap (λ l. spend l m (λ left. then_do (body (record m { left = left }) vs) (turns fuel before test body))) none

  -- one turn
  turn : (n m : Numbers) (ws vs : List Value) (fuel less : ℕ) → Ended m vs ≡ before n ws → test m vs ≡ true → m.left ≡ suc less
      → turns (suc fuel) before test body n ws ≡ then_do (body (record m { left = less }) vs) (turns fuel before test body)
  turn n m ws vs fuel less e on some =
      sym (ap (λ q. then_do q (at_test (suc fuel))) e)
      ∙ ap (λ b. if b then spend m.left m (λ left. then_do (body (record m { left = left }) vs) (turns fuel before test body)) else Ended m vs) on
      ∙ ap (λ l. spend l m (λ left. then_do (body (record m { left = left }) vs) (turns fuel before test body))) some

  -- the turn stops
  pub goes_wrong_within : (n m k : Numbers) (ws vs : List Value) (s : Cause) (o : Outcome Numbers (List Value)) → GoesTo n ws o → Ended m vs ≡ before n ws → m.left ≤ n.left → test m vs ≡ true → (m.left ≡ 0 → ⊥)
      → Stopped s k ≡ body (record m { left = m.left - 1 }) vs → Stopped s k ≡ o
  goes_wrong_within n m k ws vs s o r e fewer on some does = by_fuel r.fuel r.enough r.is
    where
      by_fuel : (fuel : ℕ) → n.left ≤ fuel → turns fuel before test body n ws ≡ o → Stopped s k ≡ o
      by_fuel zero le is = absurd (some (omega arith))
      by_fuel (suc fuel) le is = let l : m.left ≡ suc (m.left - 1) = omega arith in ap (λ q. then_do q (turns fuel before test body)) does ∙ sym (turn n m ws vs fuel (m.left - 1) e on l) ∙ is

  -- the turn ends
  pub goes_on : (n m k : Numbers) (ws vs us : List Value) (o : Outcome Numbers (List Value)) → GoesTo n ws o → Ended m vs ≡ before n ws → m.left ≤ n.left → test m vs ≡ true → (m.left ≡ 0 → ⊥)
      → Ended k us ≡ body (record m { left = m.left - 1 }) vs → k.left ≤ m.left - 1 → GoesTo k us o
  goes_on n m k ws vs us o r e fewer on some does less = by_fuel r.fuel r.enough r.is
    where
      by_fuel : (fuel : ℕ) → n.left ≤ fuel → turns fuel before test body n ws ≡ o → GoesTo k us o
      by_fuel zero le is = absurd (some (omega arith))
      by_fuel (suc fuel) le is =
          let l : m.left ≡ suc (m.left - 1) = omega arith in
          record { fuel = fuel; enough = omega arith; is = ap (λ q. then_do q (turns fuel before test body)) does ∙ sym (turn n m ws vs fuel (m.left - 1) e on l) ∙ is }
