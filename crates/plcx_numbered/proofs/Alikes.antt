-- Pieces of a scan that are alike, one after another.
use Rattle.std.proofs.Common.{◌≡◌, ℕ, zero, suc, List, [], ◌∷◌, ◌++◌, refl, sym, subst}
use Rattle.plcx_meaning.specs.Base.{Stop, OutOfTurns, Outcome, Ended, Stopped, Stuck, then_do, spend}
use Rattle.plcx_meaning.specs.Evaluate.{Heard, DiagramState}
use Rattle.plcx_steps.specs.declared.program.Step.{Step}
use Rattle.plcx_steps.specs.Numbered.{Numbered, Here, Frame, Entered, step_in, steps_do}
use Rattle.plcx_numbered.specs.Agreeing.{Shape, Agree, Alike}

module _ {M : Type 0} {whole : Shape} {tell : M → Heard → M} {begun : M} where
  pub both_end : {L K : Type 0} {R : L → K → Type 0} {d : DiagramState} {n : Numbered M} {l : L} {k : K} → Agree whole tell begun d n → R l k → Alike whole tell begun R (Ended d l) (Ended n k)
  both_end a r = record { is = (a, r) }

  pub both_stop : {L K : Type 0} {R : L → K → Type 0} {d : DiagramState} {n : Numbered M} (s : Stop) → Agree whole tell begun d n → Alike whole tell begun R (Stopped s d) (Stopped s n)
  both_stop s a = record { is = (refl, a) }

  pub alike_then : {L K A B : Type 0} {R : L → K → Type 0} {S : A → B → Type 0} (o : Outcome DiagramState L) (q : Outcome (Numbered M) K) (f : DiagramState → L → Outcome DiagramState A) (h : Numbered M → K → Outcome (Numbered M) B)
      → Alike whole tell begun R o q → ((d : DiagramState) (l : L) (n : Numbered M) (k : K) → Agree whole tell begun d n → R l k → Alike whole tell begun S (f d l) (h n k)) → Alike whole tell begun S (then_do o f) (then_do q h)
  alike_then (Ended d l) (Ended n k) f h a go = go d l n k a.is.0 a.is.1
  alike_then (Stopped s d) (Stopped r n) f h a go = record { is = a.is }
  alike_then (Ended d l) (Stopped r n) f h a go = absurd a.is
  alike_then (Ended d l) Stuck f h a go = absurd a.is
  alike_then (Stopped s d) (Ended n k) f h a go = absurd a.is
  alike_then (Stopped s d) Stuck f h a go = absurd a.is
  alike_then Stuck q f h a go = absurd a.is

  -- the numbers' side, and the diagram's, written otherwise
  pub alike_as : {L K : Type 0} {R : L → K → Type 0} {o : Outcome DiagramState L} (p q : Outcome (Numbered M) K) → p ≡ q → Alike whole tell begun R o q → Alike whole tell begun R o p
  alike_as {L} {K} {R} {o} p q e a = subst (λ x. Alike {L = L} {K = K} whole tell begun R o x) (sym e) a

  pub alike_from : {L K : Type 0} {R : L → K → Type 0} (o n : Outcome DiagramState L) {p : Outcome (Numbered M) K} → o ≡ n → Alike whole tell begun R n p → Alike whole tell begun R o p
  alike_from {L} {K} {R} o n {p} e a = subst (λ x. Alike {L = L} {K = K} whole tell begun R x p) (sym e) a

  pub alike_spend : {L K : Type 0} {R : L → K → Type 0} (left : ℕ) (d : DiagramState) (n : Numbered M) (f : ℕ → Outcome DiagramState L) (g : ℕ → Outcome (Numbered M) K) → Agree whole tell begun d n
      → ((l : ℕ) → Alike whole tell begun R (f l) (g l)) → Alike whole tell begun R (spend left d f) (spend left n g)
  alike_spend zero d n f g a go = both_stop OutOfTurns a
  alike_spend (suc l) d n f g a go = go l

module _ {M : Type 0} where
  pub then_then : {A B C : Type 0} (o : Outcome (Numbered M) A) (f : Numbered M → A → Outcome (Numbered M) B) (g : Numbered M → B → Outcome (Numbered M) C) → then_do (then_do o f) g ≡ then_do o (λ n a. then_do (f n a) g)
  then_then (Ended n a) f g = refl
  then_then (Stopped s n) f g = refl
  then_then Stuck f g = refl

  pub then_ended : {A : Type 0} (o : Outcome (Numbered M) A) → then_do o (λ n a. Ended n a) ≡ o
  then_ended (Ended n a) = refl
  then_ended (Stopped s n) = refl
  then_ended Stuck = refl

  -- steps, and more steps behind them
  pub steps_append : (tell : M → Heard → M) (enter : Entered M) (here : Here) (xs ys : List Step) (n : Numbered M) (f : Frame)
      → steps_do tell enter here (xs ++ ys) n f ≡ then_do (steps_do tell enter here xs n f) (λ n' f'. steps_do tell enter here ys n' f')
  steps_append tell enter here [] ys n f = refl
  steps_append tell enter here (x ∷ xs) ys n f = after (step_in tell enter here x f.skip n f.wires) (λ n' f'. steps_append tell enter here xs ys n' f')
    where
      after : (o : Outcome (Numbered M) Frame) → ((n' : Numbered M) (f' : Frame) → steps_do tell enter here (xs ++ ys) n' f' ≡ then_do (steps_do tell enter here xs n' f') (λ m g. steps_do tell enter here ys m g))
          → then_do o (λ n' f'. steps_do tell enter here (xs ++ ys) n' f') ≡ then_do (then_do o (λ n' f'. steps_do tell enter here xs n' f')) (λ m g. steps_do tell enter here ys m g)
      after (Ended n' f') rest = rest n' f'
      after (Stopped s n') rest = refl
      after Stuck rest = refl
