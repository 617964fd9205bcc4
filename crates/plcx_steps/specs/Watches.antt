-- What a watch keeps that has room for so many outputs.
use Rattle.std.specs.Prelude.{ℕ, List, [], ◌∷◌, ◌++◌, length, nat_lt, if◌then◌else◌}
use Rattle.plcx_meaning.specs.Evaluate.{Heard}
use Rattle.plcx_steps.specs.declared.watching.Told.{Told}

-- the outputs that were told, and for how many there is room
pub record Log : Type 0 where
  pub told : List Told
  pub room : ℕ

abbrev pub log : List Told → ℕ → Log
log told room = record { told = told; room = room }

-- an output as the list has it
abbrev pub told_of : Heard → Told
told_of h = record { pou = h.pou; local_id = h.id; pin = h.number; value = h.value }

-- one output more, where there is room
abbrev pub with_output : Log → Heard → Log
with_output l h = if nat_lt (length l.told) l.room then log (l.told ++ told_of h ∷ []) l.room else l
