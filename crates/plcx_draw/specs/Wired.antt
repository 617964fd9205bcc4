-- The listed inputs of a block, with what stands at them.
use Rattle.std.specs.Prelude.{ℕ, List, Option}
use Rattle.std.specs.List.{find}
use Rattle.std.specs.Option.{option_map}
use Rattle.plcx_meaning.specs.Diagram.{Link}
use Rattle.plcx_model.specs.declared.project.Pou.{Pou}
use Rattle.plcx_rules.specs.Texts.{same_name}
use Rattle.plcx_view.specs.Blocks as view
use Rattle.plcx_view.specs.Blocks.{wired_link}
use Rattle.plcx_draw.specs.declared.wired.Wired.{Wired}
use Rattle.plcx_draw.specs.Pins.{shown_pin}

-- an input or an in-out with its pin
abbrev pub shown_wired : Wired → view.Wired
shown_wired w = (w.input.now, shown_pin w.pin)

-- the first input of a name
abbrev pub input_named : List ℕ → List view.Wired → Option view.Wired
input_named name inputs = find (λ (w : view.Wired). same_name name w.0.formal) inputs

-- what stands at the input of a name, where it is listed
abbrev pub link_named : List Pou → Pou → List ℕ → List view.Wired → Option Link
link_named pous p name inputs = option_map (wired_link pous p) (input_named name inputs)
