-- The input pins of a body, with what was found out about them.
use Rattle.std.specs.Prelude.{Bool, List, [], ◌∷◌, length, drop}
use Rattle.std.specs.List.{zip}
use Rattle.plcx_types.specs.declared.ty.Ty.{Ty}
use Rattle.plcx_model.specs.declared.source.Source.{Source}

-- a source, and whether its connection is feedback
abbrev pub Feed : Type 0
Feed = Source × Bool

-- an input pin: its type, and its sources in their order
pub record Pin : Type 0 where
  pub ty : Ty
  pub feeds : List Feed

-- the pins of a body by their types, sources and marks; a mark stands for each connection, by pin, then by source
abbrev pub pins_from : List Ty → List (List Source) → List Bool → List Pin
pins_from [] pins marks = []
pins_from (t ∷ types) [] marks = []
pins_from (t ∷ types) (sources ∷ pins) marks = record { ty = t; feeds = zip sources marks } ∷ pins_from types pins (drop (length sources) marks)
