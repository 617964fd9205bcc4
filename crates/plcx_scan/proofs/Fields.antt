-- The fields of a record by their places.
use Rattle.std.proofs.Common.{◌≡◌, ◌∷◌, ℕ, zero, suc, List, [], None, get_or, refl}
use Rattle.csv.specs.Records.{field_at}

-- where there is no field, the one at the place is empty
pub no_field : (fields : List (List ℕ)) (i : ℕ) → field_at fields i ≡ None → get_or fields i [] ≡ []
unfolding field_at
no_field [] i h = refl
no_field (f ∷ fields) zero h = absurd (cc)
no_field (f ∷ fields) (suc i) h = no_field fields i h
