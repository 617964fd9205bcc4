-- What the code tells of names, in the terms of definitions.
use Rattle.std.specs.Prelude.{map}
use Rattle.plcx_types.specs.Name.{in_lower_case}
use Rattle.plcx_meaning.specs.Execute as execute
use Rattle.plcx_text_numbered.specs.Prepared as numbered
use Rattle.plcx_text_pieces.specs.Called as pieces
use Rattle.plcx_text_lines.specs.declared.numbers.Place.{Place}
use Rattle.plcx_text_lines.specs.declared.numbers.Place.TheVariants as place
use Rattle.plcx_text_lines.specs.declared.numbers.Formal.{Formal}
use Rattle.plcx_text_lines.specs.declared.numbers.Formal.TheVariants as formal
use Rattle.plcx_text_lines.specs.declared.numbers.Callee.{Callee}
use Rattle.plcx_text_lines.specs.declared.numbers.Callee.TheVariants as callee

-- where a value stands
abbrev pub shown_place : Place → numbered.Place
shown_place (place.Held w) = numbered.Held w
shown_place (place.Stored o) = numbered.Stored o

-- what a formal name is
abbrev pub shown_formal : Formal → execute.Formal
shown_formal (formal.Takes t) = execute.Takes t
shown_formal (formal.Binds t) = execute.Binds t
shown_formal formal.NoFormal = execute.NoFormal

-- what an instance calls
abbrev pub shown_callee : Callee → pieces.Callee
shown_callee (callee.Block kind leaf) = pieces.Block kind leaf
shown_callee (callee.User pou leaves in_outs) = pieces.User pou leaves (map (λ n. in_lower_case n.now) in_outs.now)
