-- When each error of `load` comes.
use Rattle.std.specs.Prelude.{◌≡◌, ◌<◌, ℕ, List, length, ⊤, IfSome}
use Rattle.std.specs.declared.option.Option.{Option}
use Rattle.plcx_io.specs.Counts.{Rose}
use Rattle.plcx_io.specs.declared.loading.LoadError.{LoadError}
use Rattle.plcx_io.specs.declared.loading.LoadError.TheVariants.{Read, TooLong, NoMemory}

-- the file as it is told, the limit, and the name's count of faults before and after
abbrev pub LoadFails : Option (List ℕ) → ℕ → ℕ → ℕ → LoadError → Type 0
LoadFails file limit before now Read = Rose before now
LoadFails file limit before now (TooLong over) = (over ≡ limit) × IfSome file (λ bytes. limit < length bytes)
LoadFails file limit before now NoMemory = ⊤
