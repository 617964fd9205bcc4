-- No POU has leaves or levels before the first are counted.
use Rattle.std.proofs.Common.{◌≡◌, ℕ, List, length, map, replicate}
use Rattle.plcx_known.specs.Owned.{Typed}
use Rattle.plcx_known.proofs.LongChains.{all_alike}

pub none_are : (owners : List (List Typed)) → replicate {A = ℕ} (length owners) 0 ≡ map (λ (ts : List Typed). 0) owners
none_are owners = all_alike {Y = ℕ} 0 owners
