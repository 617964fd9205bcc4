-- Pieces of a scan that are alike, one after another.
use Rattle.std.proofs.Common.{◌≡◌, ℕ, zero, suc, Bool, List, [], refl, sym, ap, ◌∙◌, subst}
use Rattle.std.specs.Prelude.{if◌then◌else◌}
use Rattle.plcx_types.specs.declared.ty.Ty.TheVariants as ty
use Rattle.plcx_types.specs.TypeName.{same_ty}
use Rattle.plcx_types.specs.Value.{Value}
use Rattle.plcx_meaning.specs.Base.{Path, is_true, Stop, OutOfTurns, Outcome, Ended, Stopped, Stuck, then_do, spend}
use Rattle.plcx_meaning.specs.Functions.{Answer, Given, Faulty, Missing}
use Rattle.plcx_meaning.specs.Execute.{TextState, with_value, with_truth}
use Rattle.plcx_steps.specs.Numbered.{Here}
use Rattle.plcx_text_steps.specs.declared.text.Text.{Text}
use Rattle.plcx_text_steps.specs.Numbered.{Numbers, Sections, lines_do}
use Rattle.plcx_text_numbered.specs.Agreeing.{Agree, Alike, Runs}

module _ {paths : List Path} where
  pub both_end : {L K : Type 0} {R : L → K → Type 0} {g : TextState} {n : Numbers} {l : L} {k : K} → Agree paths g n → R l k → Alike paths R (Ended g l) (Ended n k)
  both_end a r = record { is = (a, r) }

  pub both_stop : {L K : Type 0} {R : L → K → Type 0} {g : TextState} {n : Numbers} (s : Stop) → Agree paths g n → Alike paths R (Stopped s g) (Stopped s n)
  both_stop s a = record { is = (refl, a) }

  pub alike_then : {L K A B : Type 0} {R : L → K → Type 0} {S : A → B → Type 0} (o : Outcome TextState L) (q : Outcome Numbers K) (f : TextState → L → Outcome TextState A) (h : Numbers → K → Outcome Numbers B)
      → Alike paths R o q → ((g : TextState) (l : L) (n : Numbers) (k : K) → Agree paths g n → R l k → Alike paths S (f g l) (h n k)) → Alike paths S (then_do o f) (then_do q h)
  alike_then (Ended g l) (Ended n k) f h a go = go g l n k a.is.0 a.is.1
  alike_then (Stopped s g) (Stopped r n) f h a go = record { is = a.is }
  alike_then (Ended g l) (Stopped r n) f h a go = absurd a.is
  alike_then (Ended g l) Stuck f h a go = absurd a.is
  alike_then (Stopped s g) (Ended n k) f h a go = absurd a.is
  alike_then (Stopped s g) Stuck f h a go = absurd a.is
  alike_then Stuck q f h a go = absurd a.is

  -- the numbers' side, and the text's, written otherwise
  pub alike_as : {L K : Type 0} {R : L → K → Type 0} {o : Outcome TextState L} (p q : Outcome Numbers K) → p ≡ q → Alike paths R o q → Alike paths R o p
  alike_as {L} {K} {R} {o} p q e a = subst (λ x. Alike {L = L} {K = K} paths R o x) (sym e) a

  pub alike_from : {L K : Type 0} {R : L → K → Type 0} (o n : Outcome TextState L) {p : Outcome Numbers K} → o ≡ n → Alike paths R n p → Alike paths R o p
  alike_from {L} {K} {R} o n {p} e a = subst (λ x. Alike {L = L} {K = K} paths R x p) (sym e) a

  pub alike_spend : {L K : Type 0} {R : L → K → Type 0} (left : ℕ) (g : TextState) (n : Numbers) (f : ℕ → Outcome TextState L) (h : ℕ → Outcome Numbers K) → Agree paths g n
      → ((l : ℕ) → Alike paths R (f l) (h l)) → Alike paths R (spend left g f) (spend left n h)
  alike_spend zero g n f h a go = both_stop OutOfTurns a
  alike_spend (suc l) g n f h a go = go l

  -- what follows a value, and the lines that compute it
  pub alike_value : {A L K : Type 0} {S : L → K → Type 0} (g : TextState) (n : Numbers) (R : A → List Value → Type 0) (a : Answer A) (q : Outcome Numbers (List Value)) (go : A → Outcome TextState L) (h : Numbers → List Value → Outcome Numbers K)
      → Agree paths g n → Runs n R a q → ((x : A) (vs : List Value) → R x vs → Alike paths S (go x) (h n vs)) → Alike paths S (with_value a g go) (then_do q h)
  alike_value {A} {L} {K} {S} g n R (Given x) (Ended m vs) go h a r next = subst (λ k. Alike {L = L} {K = K} paths S (go x) (h k vs)) (sym r.is.0) (next x vs r.is.1)
  alike_value g n R (Given x) (Stopped s m) go h a r next = absurd r.is
  alike_value g n R (Given x) Stuck go h a r next = absurd r.is
  alike_value g n R (Faulty e) (Ended m vs) go h a r next = absurd r.is
  alike_value g n R (Faulty e) (Stopped s m) go h a r next = record { is = (sym r.is.0, subst (Agree paths g) (sym r.is.1) a) }
  alike_value g n R (Faulty e) Stuck go h a r next = absurd r.is
  alike_value g n R Missing q go h a r next = absurd r.is

  -- what follows a condition
  pub alike_truth : {L K : Type 0} {S : L → K → Type 0} (g : TextState) (n : Numbers) (R : Value → List Value → Type 0) (a : Answer Value) (q : Outcome Numbers (List Value)) (go : Bool → Outcome TextState L) (h : Numbers → List Value → Outcome Numbers K) (on : List Value → Bool)
      → Agree paths g n → Runs n R a q → ((v : Value) (vs : List Value) → R v vs → (v.ty ≡ ty.Bool) × (is_true v.n ≡ on vs)) → ((v : Value) (vs : List Value) → R v vs → Alike paths S (go (on vs)) (h n vs))
      → Alike paths S (with_truth a g go) (then_do q h)
  alike_truth g n R a q go h on agrees r facts next =
      alike_value g n R a q (λ v. if same_ty v.ty ty.Bool then go (is_true v.n) else Stuck) h agrees r (λ v vs k.
      alike_from _ _ (ap (λ t. if same_ty t ty.Bool then go (is_true v.n) else Stuck) (facts v vs k).0 ∙ ap go (facts v vs k).1) (next v vs k))

pub then_then : {A B C : Type 0} (o : Outcome Numbers A) (f : Numbers → A → Outcome Numbers B) (h : Numbers → B → Outcome Numbers C) → then_do (then_do o f) h ≡ then_do o (λ n a. then_do (f n a) h)
then_then (Ended n a) f h = refl
then_then (Stopped s n) f h = refl
then_then Stuck f h = refl

-- behind the last line
pub last_line : (sections : Sections) (text : Text) (here : Here) (o : Outcome Numbers (List Value)) → then_do o (lines_do sections text here []) ≡ o
last_line sections text here (Ended n ws) = refl
last_line sections text here (Stopped s n) = refl
last_line sections text here Stuck = refl
