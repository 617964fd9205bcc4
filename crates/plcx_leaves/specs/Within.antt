-- The instances that a variable stands in.
use Rattle.std.specs.Prelude.{ℕ, List, map, reverse}
use Rattle.std.specs.Borrow.{Bor}

-- the names of instances, the outermost first, as a spelling, which begins with the innermost
abbrev pub spelled : List (Bor (List ℕ)) → List (List ℕ)
spelled names = reverse (map (λ (n : Bor (List ℕ)). n.now) names)
