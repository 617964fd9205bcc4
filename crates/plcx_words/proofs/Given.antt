-- From what `clap` ensures to what the words give.
use Rattle.std.proofs.Common.{◌≡◌, ◌≢◌, ◌∙◌, ap, refl, sym, inl, inr, codes, true, List, Some, None, [], ◌∷◌, if◌then◌else◌, length}
use Rattle.std.proofs.Math.Dec.{eqb-suc-zero}
use Rattle.clap.proofs.OnLiterals.{clap_on_literals}
use Rattle.clap.proofs.WalkLemmas.{first_value-rows}
use Rattle.clap.specs.Faults.{fault_of, is_simple_and_free}
use Rattle.clap.specs.Kinds.{HasKind, IsAmong, Kinds}
use Rattle.clap.specs.Matches.{first_value}
use Rattle.clap.specs.Simple.{App, is_simple, matches_of}
use Rattle.clap.specs.Values.{kind_of}
use Rattle.clap.specs.Walk.{Text, is_empty, rows_of}
use Rattle.clap.specs.declared.error.Error.{Error}
use Rattle.clap.specs.declared.error.kind.ErrorKind.{ErrorKind}
use Rattle.clap.specs.declared.error.kind.ErrorKind.TheVariants as kind
use Rattle.clap.specs.declared.parser.matches.Found.{Found}
use Rattle.plcx_words.specs.Simple.{Arguments, arguments_in, given, tool}

simple : is_simple tool ≡ true
unfolding clap_on_literals
simple = refl

free : is_simple_and_free tool ≡ true
unfolding clap_on_literals
free = refl

-- the values that the getters give
abbrev pub shown : Found → Arguments
shown f = record {
  action = first_value f (codes "action");
  file = first_value f (codes "file");
  events = first_value f (codes "events");
  program = first_value f (codes "program");
  turns = first_value f (codes "turns");
  retain = first_value f (codes "retain");
}

shown_rows : (f : Found) → shown f ≡ arguments_in (rows_of f)
shown_rows f = rw (
  first_value-rows f (codes "action"),
  first_value-rows f (codes "file"),
  first_value-rows f (codes "events"),
  first_value-rows f (codes "program"),
  first_value-rows f (codes "turns"),
  first_value-rows f (codes "retain"),
) refl

pub read : (a : App) (words : List Text) (f : Found) → a ≡ tool → (is_simple_and_free a ≡ true → fault_of a words ≡ [])
    → (is_simple a ≡ true → rows_of f ≡ matches_of a words) → Some (shown f) ≡ given words
unfolding given
read a words f is fault rows =
    let none : fault_of tool words ≡ [] = ap (λ (x : App). fault_of x words) (sym is) ∙ fault (ap is_simple_and_free is ∙ free) in
    let same : rows_of f ≡ matches_of tool words = rows (ap is_simple is ∙ simple) ∙ ap (λ (x : App). matches_of x words) is in
    rw none (ap Some (shown_rows f ∙ ap arguments_in same))

among : {X : Type 0} (k : ErrorKind) (kinds : Kinds) (x : X) → IsAmong k kinds → (if is_empty kinds then Some x else None) ≡ None
among k [] x h = absurd h
among k (y ∷ ys) x h = rw (eqb-suc-zero (length ys)) refl

pub refused : (a : App) (words : List Text) (e : Error) → a ≡ tool → (is_simple_and_free a ≡ true → HasKind (fault_of a words) e)
    → kind_of e ≢ kind.OutOfMemory → given words ≡ None
unfolding given
refused a words e is fails other =
    elim (fails (ap is_simple_and_free is ∙ free)) [
      | inl h ↦ absurd (other h)
      | inr h ↦ among (kind_of e) (fault_of tool words) (arguments_in (matches_of tool words)) (rw is at h)
    ]
