-- Statements one after another, and what passes from one piece of a scan to the next.
use Rattle.std.proofs.Common.{◌≡◌, ℕ, suc, zero, List, [], ◌∷◌, ◌++◌, refl, sym, ◌∙◌, subst, arith}
use Rattle.plcx_meaning.specs.Base.{OutOfTurns, Outcome, Ended, Stopped, Stuck, then_do, spend}
use Rattle.plcx_meaning.specs.Tree.{Statement, statements}
use Rattle.plcx_meaning.specs.Evaluate.{DiagramState}
use Rattle.plcx_meaning.specs.Execute.{TextState, Frame, TextSetting, TextCalls, statement_runs, statements_run, list_runs}
use Rattle.plcx_meaning.specs.Same.{Agree}
use Rattle.plcx_meaning.proofs.Alike.{Alike, both_stop}

pub then_then : {G L K M : Type 0} (o : Outcome G L) (f : G → L → Outcome G K) (h : G → K → Outcome G M) → then_do (then_do o f) h ≡ then_do o (λ g l. then_do (f g l) h)
then_then (Ended g l) f h = refl
then_then (Stopped s g) f h = refl
then_then Stuck f h = refl

pub then_ext : {G L K : Type 0} (o : Outcome G L) (f h : G → L → Outcome G K) → ((g : G) (l : L) → f g l ≡ h g l) → then_do o f ≡ then_do o h
then_ext (Ended g l) f h same = same g l
then_ext (Stopped s g) f h same = refl
then_ext Stuck f h same = refl

pub then_ended : {G L : Type 0} (o : Outcome G L) → then_do o (λ g l. Ended g l) ≡ o
then_ended (Ended g l) = refl
then_ended (Stopped s g) = refl
then_ended Stuck = refl

pub run_append : (a b : List Statement) (c : TextSetting) (call : TextCalls) (g : TextState) (f : Frame) → list_runs (a ++ b) c call g f ≡ then_do (list_runs a c call g f) (list_runs b c call)
run_append [] b c call g f = refl
run_append (s ∷ a) b c call g f =
    then_ext (statement_runs s c call g f) _ _ (λ h l. run_append a b c call h l)
    ∙ sym (then_then (statement_runs s c call g f) (list_runs a c call) (list_runs b c call))

-- statements within a statement
pub run_within : (ss : List Statement) (c : TextSetting) (call : TextCalls) (g : TextState) (f : Frame) → statements_run (statements ss) c call g f ≡ list_runs ss c call g f
run_within [] c call g f = refl
run_within (s ∷ ss) c call g f = then_ext (statement_runs s c call g f) _ _ (λ h l. run_within ss c call h l)

pub agree_turns : (d : DiagramState) (g : TextState) (n : ℕ) → Agree d g → Agree (record d { left = n }) (record g { left = n })
agree_turns d g n a = record { stores = a.stores; memories = a.memories; lefts = refl }

-- one turn of the budget on both sides
pub alike_spend : {L K : Type 0} {R : L → K → Type 0} (m n : ℕ) (d : DiagramState) (g : TextState) (f : ℕ → Outcome DiagramState L) (h : ℕ → Outcome TextState K)
    → m ≡ n → Agree d g → ((v : ℕ) → Alike R (f v) (h v)) → Alike R (spend m d f) (spend n g h)
alike_spend zero zero d g f h e a go = both_stop OutOfTurns a
alike_spend zero (suc n) d g f h e a go = absurd (omega arith)
alike_spend (suc m) zero d g f h e a go = absurd (omega arith)
alike_spend {L} {K} {R} (suc m) (suc n) d g f h e a go = let same : m ≡ n = omega arith in subst (λ k. Alike {L = L} {K = K} R (f m) (h k)) same (go m)
