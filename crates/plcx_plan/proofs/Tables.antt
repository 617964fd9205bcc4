-- The table of a file's programs.
use Rattle.std.proofs.Common.{◌≡◌, ℕ, ◌+◌, ◌<◌, ◌≤◌, List, ◌∷◌, Bool, true, false, Option, Some, None, is_some, cond, drop, get_or, length, refl, sym, ap, ◌∙◌}
use Rattle.std.specs.List.{position_from}
use Rattle.std.specs.Str.{bytes_eq}
use Rattle.std.proofs.lemmas.List.{at_drop_more, at_drop_all}
use Rattle.std.proofs.lemmas.Slice.Eq.{bytes_eq-Decides}
use Rattle.plcx_plan.specs.Told.{found_or, place_if}

pub or_none : (o : Option ℕ) → found_or o None ≡ o
or_none None = refl
or_none (Some x) = refl

unknown : (o : Option ℕ) → is_some o ≡ false → o ≡ None
unknown None h = refl
unknown (Some x) h = cc

known : (o p : Option ℕ) → is_some o ≡ true → found_or o p ≡ o
known None p h = cc
known (Some x) p h = refl

added_by : (get : List ℕ → Option ℕ) (q n : List ℕ) (place : ℕ) (b : Bool) → bytes_eq q n ≡ b → is_some (get n) ≡ false → cond b (Some place) (get q) ≡ found_or (get q) (place_if b place)
added_by get q n place true same none =
    let is : q ≡ n = (bytes_eq-Decides q n).0 same in
    let new : get q ≡ None = ap get is ∙ unknown (get n) none in
    rw new refl
added_by get q n place false same none = sym (or_none (get q))

-- a new name
pub added : (get : List ℕ → Option ℕ) (q n : List ℕ) (place : ℕ) → is_some (get n) ≡ false → cond (bytes_eq q n) (Some place) (get q) ≡ found_or (get q) (place_if (bytes_eq q n) place)
added get q n place none = added_by get q n place (bytes_eq q n) refl none

stays_by : (get : List ℕ → Option ℕ) (q n : List ℕ) (place : ℕ) (b : Bool) → bytes_eq q n ≡ b → is_some (get n) ≡ true → get q ≡ found_or (get q) (place_if b place)
stays_by get q n place true same some =
    let is : q ≡ n = (bytes_eq-Decides q n).0 same in
    let there : is_some (get q) ≡ true = ap (λ t. is_some (get t)) is ∙ some in
    sym (known (get q) (Some place) there)
stays_by get q n place false same some = sym (or_none (get q))

-- a name that has its place
pub stays : (get : List ℕ → Option ℕ) (q n : List ℕ) (place : ℕ) → is_some (get n) ≡ true → get q ≡ found_or (get q) (place_if (bytes_eq q n) place)
stays get q n place some = stays_by get q n place (bytes_eq q n) refl some

then_rest : (o : Option ℕ) (b : Bool) (i : ℕ) (rest : Option ℕ) → found_or (found_or o (place_if b i)) rest ≡ found_or o (cond b (Some i) rest)
then_rest None true i rest = refl
then_rest None false i rest = refl
then_rest (Some x) b i rest = refl

-- one POU more
pub more : {X : Type 0} (t : X → Bool) (i : ℕ) (xs : List X) (x : X) (o after w : Option ℕ) → i < length xs → x ≡ get_or xs i x → after ≡ found_or o (place_if (t x) i) → found_or o (position_from t i (drop i xs)) ≡ w → found_or after (position_from t (i + 1) (drop (i + 1) xs)) ≡ w
more t i xs x o after w h at is before =
    ap (λ (a : Option ℕ). found_or a (position_from t (i + 1) (drop (i + 1) xs))) is
    ∙ then_rest o (t x) i (position_from t (i + 1) (drop (i + 1) xs))
    ∙ ap (λ y. found_or o (position_from t i (y ∷ drop (i + 1) xs))) at
    ∙ sym (at_drop_more (λ ys. found_or o (position_from t i ys)) xs i x h) ∙ before

-- no POU more
pub done : {X : Type 0} (t : X → Bool) (i : ℕ) (xs : List X) (o w : Option ℕ) → length xs ≤ i → found_or o (position_from t i (drop i xs)) ≡ w → o ≡ w
done t i xs o w h before = sym (or_none o) ∙ sym (at_drop_all (λ ys. found_or o (position_from t i ys)) xs i h) ∙ before
