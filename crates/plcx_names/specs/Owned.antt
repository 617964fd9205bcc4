-- What is kept of a POU.
use Rattle.std.specs.Prelude.{◌≡◌, List}
use Rattle.plcx_model.specs.declared.project.Pou.{Pou}
use Rattle.plcx_model.specs.declared.project.ListClass.TheVariants.{Input, Output, InOut}
use Rattle.plcx_rules.specs.Declarations.{Declaration, declarations_of}
use Rattle.plcx_rules.specs.Callees.{BlockPin, block_pins}

-- these are the variables of a POU, and its pins
abbrev pub AreOwn : Pou → List Declaration → (inputs in_outs outputs : List BlockPin) → Type 0
AreOwn p variables inputs in_outs outputs = (variables ≡ declarations_of p) × (inputs ≡ block_pins Input p) × (in_outs ≡ block_pins InOut p) × (outputs ≡ block_pins Output p)
