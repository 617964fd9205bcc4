-- Serves proofs: what noted texts say of what has stood.
use Rattle.std.specs.Prelude.{◌≡◌, ℕ, List, Vec}
use Rattle.std.specs.declared.alloc.Global.{Global}
use Rattle.std.specs.List.{list_any}
use Rattle.std.specs.Str.{bytes_eq}
use Rattle.plcx_profile.specs.declared.doubling.Once.{Once}
use Rattle.plcx_profile.specs.Declarations.{Declared}
use Rattle.plcx_profile.specs.Names.{has_stood}

-- the texts are those that have stood
abbrev pub Notes : Once → List Declared → List (Vec ℕ Global) → Type 0
Notes once before keys = (q : List ℕ) → list_any (λ k. bytes_eq q k.items) keys ≡ has_stood once q before
