-- Two pieces of a scan, one of each side, that come out alike; and how such pieces are put one after another.
use Rattle.std.proofs.Common.{◌≡◌, List, [], ◌++◌, refl, sym, subst}
use Rattle.plcx_meaning.specs.Base.{Stop, Outcome, Ended, Stopped, Stuck, then_do}
use Rattle.plcx_meaning.specs.Evaluate.{Heard, DiagramState, hear, unheard}
use Rattle.plcx_meaning.specs.Execute.{TextState}
use Rattle.plcx_meaning.specs.Same.{Agree, AlikeAt}

-- both end with agreeing states and what is local related, or both stop for the same cause with agreeing states
pub record Alike {L K : Type 0} (R : L → K → Type 0) (o : Outcome DiagramState L) (p : Outcome TextState K) : Type 0 where
  pub is : AlikeAt R o p

-- nothing is local
abbrev pub Nothing : Unit {0} → Unit {0} → Type 0
Nothing u v = Unit {0}

pub both_end : {L K : Type 0} {R : L → K → Type 0} {d : DiagramState} {g : TextState} {l : L} {k : K} → Agree d g → R l k → Alike R (Ended d l) (Ended g k)
both_end a r = record { is = (a, r) }

pub both_stop : {L K : Type 0} {R : L → K → Type 0} {d : DiagramState} {g : TextState} (s : Stop) → Agree d g → Alike R (Stopped s d) (Stopped s g)
both_stop s a = record { is = (refl, a) }

pub alike_then : {L K M N : Type 0} {R : L → K → Type 0} {S : M → N → Type 0} (o : Outcome DiagramState L) (p : Outcome TextState K)
    (f : DiagramState → L → Outcome DiagramState M) (h : TextState → K → Outcome TextState N)
    → Alike R o p → ((d : DiagramState) (l : L) (g : TextState) (k : K) → Agree d g → R l k → Alike S (f d l) (h g k)) → Alike S (then_do o f) (then_do p h)
alike_then (Ended d l) (Ended g k) f h a go = go d l g k a.is.0 a.is.1
alike_then (Stopped s d) (Stopped r g) f h a go = record { is = a.is }
alike_then (Ended d l) (Stopped r g) f h a go = absurd a.is
alike_then (Ended d l) Stuck f h a go = absurd a.is
alike_then (Stopped s d) (Ended g k) f h a go = absurd a.is
alike_then (Stopped s d) Stuck f h a go = absurd a.is
alike_then Stuck p f h a go = absurd a.is

-- the text's side, and the diagram's, written otherwise
pub alike_as : {L K : Type 0} {R : L → K → Type 0} {o : Outcome DiagramState L} (p q : Outcome TextState K) → p ≡ q → Alike R o q → Alike R o p
alike_as {L} {K} {R} {o} p q e a = subst (λ x. Alike {L = L} {K = K} R o x) (sym e) a

pub alike_from : {L K : Type 0} {R : L → K → Type 0} (o n : Outcome DiagramState L) {p : Outcome TextState K} → o ≡ n → Alike R n p → Alike R o p
alike_from {L} {K} {R} o n {p} e a = subst (λ x. Alike {L = L} {K = K} R x p) (sym e) a

-- what a watch hears is no matter of agreement
pub unheard_agrees : (d : DiagramState) (g : TextState) (hs : List Heard) → Agree d g → Agree (record d { heard = hs }) g
unheard_agrees d g hs a = record { stores = a.stores; memories = a.memories; lefts = a.lefts }

pub heard_alike : {L K : Type 0} {R : L → K → Type 0} (hs : List Heard) (d : DiagramState) (l : L) (p : Outcome TextState K) → Alike R (Ended d l) p → Alike R (Ended (hear hs d) l) p
heard_alike hs d l (Ended g k) a = both_end (unheard_agrees d g (d.heard ++ hs) a.is.0) a.is.1
heard_alike hs d l (Stopped s g) a = absurd a.is
heard_alike hs d l Stuck a = absurd a.is

pub unheard_alike : (o : Outcome DiagramState (Unit {0})) (p : Outcome TextState (Unit {0})) → Alike Nothing o p → Alike Nothing (unheard o) p
unheard_alike (Ended d u) (Ended g k) a = both_end (unheard_agrees d g [] a.is.0) tt
unheard_alike (Ended d u) (Stopped s g) a = absurd a.is
unheard_alike (Ended d u) Stuck a = absurd a.is
unheard_alike (Stopped s d) (Ended g k) a = absurd a.is
unheard_alike (Stopped s d) (Stopped r g) a = record { is = (a.is.0, unheard_agrees d g [] a.is.1) }
unheard_alike (Stopped s d) Stuck a = absurd a.is
unheard_alike Stuck p a = absurd a.is
