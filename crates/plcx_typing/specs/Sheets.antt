-- The sheet of a body by its parts.
use Rattle.std.specs.Prelude.{List}
use Rattle.plcx_model.specs.declared.source.Source.{Source}
use Rattle.plcx_rules.specs.declared.form.Pin.{Pin}
use Rattle.plcx_rules.specs.declared.form.Form.{Form}
use Rattle.plcx_rules.specs.Types.{Sheet}

-- what the types of a body go by
abbrev pub sheet : List Form → List Pin → List (List Source) → Sheet
sheet forms pins sources = record { forms = forms; pins = pins; sources = sources }
