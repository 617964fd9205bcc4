-- A text compared part by part, whatever the case of its letters.
use Rattle.std.proofs.Common.{◌≡◌, ℕ, ◌&&◌, nat_le, List, [], ◌∷◌, ◌++◌, length, take, drop, arith}
use Rattle.std.specs.Str.{str_eq_ignore_ascii_case}
use Rattle.std.proofs.lemmas.Grind.{common_steps}

-- a text reads as a front and a rest where its own front and rest do
pub reads_append : (word front rest : List ℕ) → str_eq_ignore_ascii_case word (front ++ rest) ≡ (nat_le (length front) (length word) && (str_eq_ignore_ascii_case (take (length front) word) front && str_eq_ignore_ascii_case (drop (length front) word) rest))
reads_append word [] rest = grind (arith, common_steps)
reads_append [] (b ∷ front) rest = grind (arith, common_steps)
reads_append (w ∷ word) (b ∷ front) rest = let again = reads_append word front rest in grind (arith, common_steps, again)
