-- Lines one after another, and the wires that they leave as they are.
use Rattle.std.proofs.Common.{◌≡◌, ℕ, ◌<◌, ◌≤◌, List, [], ◌∷◌, ◌++◌, length, set, refl, sym, ap, ◌∙◌, subst, arith}
use Rattle.std.proofs.lemmas.List.{length-set, get_or-set_other}
use Rattle.std.proofs.lemmas.Option.{slice_get_within}
use Rattle.plcx_types.specs.Value.{Value}
use Rattle.plcx_meaning.specs.Base.{Outcome, Ended, Stopped, Stuck, then_do}
use Rattle.plcx_meaning.specs.Functions.{Answer, Given, Faulty, Missing, on_value}
use Rattle.plcx_meaning.specs.Execute.{Frame}
use Rattle.plcx_steps.specs.declared.program.Source.{Source}
use Rattle.plcx_steps.specs.declared.program.Source.TheVariants.{Constant, Wire, Memory, Variable}
use Rattle.plcx_steps.specs.Numbered.{Here, no_value, source_at}
use Rattle.plcx_text_steps.specs.declared.text.Line.{Line}
use Rattle.plcx_text_steps.specs.declared.text.Text.{Text}
use Rattle.plcx_text_steps.specs.Numbered.{Numbers, Sections, cells_of, line_does, lines_do}
use Rattle.plcx_text_numbered.specs.Agreeing.{plain_name, SameFrame, IsBelow, Runs}

-- lines, and more lines behind them
pub lines_append : (sections : Sections) (text : Text) (here : Here) (xs ys : List Line) (n : Numbers) (ws : List Value)
    → lines_do sections text here (xs ++ ys) n ws ≡ then_do (lines_do sections text here xs n ws) (lines_do sections text here ys)
lines_append sections text here [] ys n ws = refl
lines_append sections text here (x ∷ xs) ys n ws = after (line_does sections text here x n ws) (λ m vs. lines_append sections text here xs ys m vs)
  where
    after : (o : Outcome Numbers (List Value)) → ((m : Numbers) (vs : List Value) → lines_do sections text here (xs ++ ys) m vs ≡ then_do (lines_do sections text here xs m vs) (lines_do sections text here ys))
        → then_do o (lines_do sections text here (xs ++ ys)) ≡ then_do (then_do o (lines_do sections text here xs)) (lines_do sections text here ys)
    after (Ended m vs) rest = rest m vs
    after (Stopped s m) rest = refl
    after Stuck rest = refl

-- what follows a value
pub runs_then : {A B : Type 0} (n : Numbers) (R : A → List Value → Type 0) (S : B → List Value → Type 0) (a : Answer A) (q : Outcome Numbers (List Value)) (f : A → Answer B) (h : Numbers → List Value → Outcome Numbers (List Value))
    → Runs n R a q → ((x : A) (vs : List Value) → R x vs → Runs n S (f x) (h n vs)) → Runs n S (on_value a f) (then_do q h)
runs_then n R S (Given x) (Ended m vs) f h r go = subst (λ k. Runs n S (f x) (h k vs)) (sym r.is.0) (go x vs r.is.1)
runs_then n R S (Given x) (Stopped s m) f h r go = absurd r.is
runs_then n R S (Given x) Stuck f h r go = absurd r.is
runs_then n R S (Faulty e) (Ended m vs) f h r go = absurd r.is
runs_then n R S (Faulty e) (Stopped s m) f h r go = record { is = r.is }
runs_then n R S (Faulty e) Stuck f h r go = absurd r.is
runs_then n R S Missing q f h r go = absurd r.is

-- the lines of one piece, and those of the next
pub runs_lines : {A B : Type 0} (sections : Sections) (text : Text) (here : Here) (n : Numbers) (ws : List Value) (R : A → List Value → Type 0) (S : B → List Value → Type 0) (a : Answer A) (xs ys : List Line) (f : A → Answer B)
    → Runs n R a (lines_do sections text here xs n ws) → ((x : A) (vs : List Value) → R x vs → Runs n S (f x) (lines_do sections text here ys n vs)) → Runs n S (on_value a f) (lines_do sections text here (xs ++ ys) n ws)
runs_lines sections text here n ws R S a xs ys f r go =
    subst (λ q. Runs n S (on_value a f) q) (sym (lines_append sections text here xs ys n ws)) (runs_then n R S a (lines_do sections text here xs n ws) f (lines_do sections text here ys) r go)

-- a value is made of another
pub runs_map : {A B : Type 0} (n : Numbers) (R : A → List Value → Type 0) (S : B → List Value → Type 0) (a : Answer A) (q : Outcome Numbers (List Value)) (f : A → B)
    → Runs n R a q → ((x : A) (vs : List Value) → R x vs → S (f x) vs) → Runs n S (on_value a (λ x. Given (f x))) q
runs_map n R S (Given x) (Ended m vs) f r go = record { is = (r.is.0, go x vs r.is.1) }
runs_map n R S (Given x) (Stopped s m) f r go = absurd r.is
runs_map n R S (Given x) Stuck f r go = absurd r.is
runs_map n R S (Faulty e) (Ended m vs) f r go = absurd r.is
runs_map n R S (Faulty e) (Stopped s m) f r go = record { is = r.is }
runs_map n R S (Faulty e) Stuck f r go = absurd r.is
runs_map n R S Missing q f r go = absurd r.is

-- ---- wires

pub below_refl : (w : ℕ) (ws : List Value) → IsBelow w ws ws
below_refl w ws = record { count = refl; same = λ i low. refl }

pub below_then : (w k : ℕ) (ws vs us : List Value) → w ≤ k → IsBelow w ws vs → IsBelow k vs us → IsBelow w ws us
below_then w k ws vs us le a b = record { count = b.count ∙ a.count; same = λ i low. b.same i (omega arith) ∙ a.same i low }

pub below_set : (w i : ℕ) (ws : List Value) (v : Value) → w ≤ i → IsBelow w ws (set ws i v)
below_set w i ws v le = record { count = length-set ws i v; same = λ j low. get_or-set_other ws i j v no_value (λ e. let e' : j ≡ i = e in omega arith) }

-- the temporaries are as they were
pub frame_below : (names : List (List ℕ)) (f : Frame) (w : ℕ) (ws vs : List Value) → length names ≤ w → IsBelow w ws vs → SameFrame names f ws → SameFrame names f vs
frame_below names f w ws vs le b h = record {
  long = subst (λ k. length names ≤ k) (sym b.count) h.long;
  each = λ i x there. let low = slice_get_within names i (plain_name x) there in h.each i x there ∙ sym (ap (λ (v : Value). v.n) (b.same i (omega arith)));
}

-- a source that is no wire from this one on
abbrev pub Low : ℕ → Source → Type 0
Low w (Constant v) = Unit {0}
Low w (Wire i) = i < w
Low w (Memory m) = Unit {0}
Low w (Variable o) = Unit {0}

-- has the value that it had
pub source_below : (here : Here) (n : Numbers) (w : ℕ) (ws vs : List Value) (s : Source) → Low w s → IsBelow w ws vs → source_at here (cells_of n vs) s ≡ source_at here (cells_of n ws) s
source_below here n w ws vs (Constant v) low b = refl
source_below here n w ws vs (Wire i) low b = b.same i low
source_below here n w ws vs (Memory m) low b = refl
source_below here n w ws vs (Variable o) low b = refl
