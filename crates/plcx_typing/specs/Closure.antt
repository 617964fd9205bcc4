-- What the search for the types of groups keeps. Only proofs are served by it.
use Rattle.std.specs.Prelude.{◌≡◌, ℕ, ◌+◌, ◌*◌, ◌<◌, ◌≤◌, Bool, true, false, List, [], ◌∷◌, length, get_or, set}
use Rattle.std.specs.List.{Contains}
use Rattle.plcx_types.specs.declared.ty.Ty.{Ty}
use Rattle.plcx_types.specs.declared.ty.Ty.TheVariants as ty
use Rattle.plcx_types.specs.TypeName.{position_of_type}
use Rattle.plcx_typing.specs.declared.flow.Fact.{Fact}

abbrev pub fact : ℕ → Ty → Fact
fact e t = record { element = e; ty = t }

abbrev pub no_fact : Fact
no_fact = fact 0 ty.Bool

-- the place of the mark of an element and a type
abbrev pub mark_place : ℕ → Ty → ℕ
mark_place e t = 14 * e + position_of_type t

abbrev pub is_marked : List Bool → ℕ → Ty → Bool
is_marked marks e t = get_or marks (mark_place e t) false

-- the marks with one more
abbrev pub marked : List Bool → Fact → List Bool
marked marks f = set marks (mark_place f.element f.ty) true

-- the elements whose groups take what that of an element gives
abbrev pub next_of : List (List ℕ) → ℕ → List ℕ
next_of next e = get_or next e []

-- a type comes to a group: it is a seed, or comes from a group before it
pub data Comes (seeds : List Fact) (next : List (List ℕ)) : ℕ → Ty → Type 0 where
  Seed : {e : ℕ} {t : Ty} → Contains seeds (fact e t) → Comes seeds next e t
  Step : {u e : ℕ} {t : Ty} → Comes seeds next u t → Contains (next_of next u) e → Comes seeds next e t

-- all are elements
pub record IsFlow (n : ℕ) (seeds : List Fact) (next : List (List ℕ)) : Type 0 where
  pub seeded : (f : Fact) → Contains seeds f → f.element < n
  pub count : length next ≡ n
  pub within : (u v : ℕ) → Contains (next_of next u) v → v < n

pub record IsFound (seeds : List Fact) (next : List (List ℕ)) (n : ℕ) (marks : List Bool) (f : Fact) : Type 0 where
  pub element : f.element < n
  pub marked : is_marked marks f.element f.ty ≡ true
  pub comes : Comes seeds next f.element f.ty

abbrev pub found_at : List Fact → ℕ → Fact
found_at found k = get_or found k no_fact

-- what follows from a fact is marked
abbrev pub IsPassed : List (List ℕ) → List Bool → Fact → Type 0
IsPassed next marks f = (v : ℕ) → Contains (next_of next f.element) v → is_marked marks v f.ty ≡ true

-- how many marks are missing
abbrev pub unmarked : List Bool → ℕ
unmarked [] = 0
unmarked (true ∷ marks) = unmarked marks
unmarked (false ∷ marks) = 1 + unmarked marks

-- what is marked is found, once; what follows from the first of it is found as well
pub record IsSearch (seeds : List Fact) (next : List (List ℕ)) (n : ℕ) (marks : List Bool) (found : List Fact) (done : ℕ) : Type 0 where
  pub count : length marks ≡ 14 * n
  pub each : (k : ℕ) → k < length found → IsFound seeds next n marks (found_at found k)
  pub whole : (e : ℕ) (t : Ty) → e < n → is_marked marks e t ≡ true → Contains found (fact e t)
  pub left : unmarked marks + length found ≡ 14 * n
  pub passed : (k : ℕ) → k < done → IsPassed next marks (found_at found k)
  pub most : done ≤ length found

-- no mark is lost
abbrev pub KeepsMarks : List Bool → List Bool → Type 0
KeepsMarks old new = (e : ℕ) (t : Ty) → is_marked old e t ≡ true → is_marked new e t ≡ true

-- the first facts stay as they are
pub record Extends (old new : List Fact) : Type 0 where
  pub longer : length old ≤ length new
  pub same : (k : ℕ) → k < length old → found_at new k ≡ found_at old k

abbrev pub AreMarked : List Bool → List Fact → Type 0
AreMarked marks facts = (f : Fact) → Contains facts f → is_marked marks f.element f.ty ≡ true
