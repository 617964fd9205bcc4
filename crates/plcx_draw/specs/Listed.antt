-- What a block lists, and what it is by that.
use Rattle.std.specs.Prelude.{◌≡◌, ℕ, List, [], Option, map, drop, length}
use Rattle.std.specs.List.{zip}
use Rattle.std.specs.Option.{option_map}
use Rattle.std.specs.Borrow.{Bor}
use Rattle.plcx_drawn.specs.declared.element.OutputPin as drawn
use Rattle.plcx_drawn.specs.Shown.{shown_output_pin}
use Rattle.plcx_meaning.specs.Diagram.{ElementKind, OutputPin}
use Rattle.plcx_model.specs.declared.body.PinIn.{PinIn}
use Rattle.plcx_model.specs.declared.body.PinOut.{PinOut}
use Rattle.plcx_model.specs.declared.body.Kind.TheVariants as kind
use Rattle.plcx_model.specs.declared.project.Pou.{Pou}
use Rattle.plcx_rules.specs.declared.callee.Callee.{Callee}
use Rattle.plcx_rules.specs.Callees.{Formal, output_formal}
use Rattle.plcx_names.specs.declared.formals.Formal as formals
use Rattle.plcx_view.specs.Operands.{target_by}
use Rattle.plcx_view.specs.Pins.{Pin}
use Rattle.plcx_view.specs.Links.{declared_name}
use Rattle.plcx_view.specs.Blocks.{fixed_type, output_pin, beside, block_by}
use Rattle.plcx_draw.specs.declared.blocks.Listed.{Listed}
use Rattle.plcx_draw.specs.Known.{Looked, shown_output}
use Rattle.plcx_draw.specs.Wired.{shown_wired}

-- the variable of an inVariable
abbrev pub lent : Looked → List ℕ
lent l = elim l.element.kind [ kind.In text mods ↦ target_by l.held | _ ↦ [] ]

-- an output of an instance, by the formal parameter that it stands for
abbrev pub output_by : Option Formal → PinOut → OutputPin
output_by f o = record { name = declared_name f; ty = fixed_type f; negated = o.mods.negated }

-- these are the outputs of an instance beside ENO, whatever is called whose formal parameters the listed outputs stand for
abbrev pub AreOutputPins : List (Option formals.Formal) → List PinOut → List drawn.OutputPin → Type 0
AreOutputPins found outputs pins =
    (pous : List Pou) (c : Callee) → map shown_output found ≡ map (output_formal pous c outputs) outputs → map shown_output_pin pins ≡ map (output_pin pous c outputs) (beside outputs)

-- the name of the instance, where one is given
abbrev pub instance_in : Listed → Option (List ℕ)
instance_in l = option_map (λ (name : Bor (List ℕ)). name.now) l.instance

-- what a block lists, with its pins, which come first among these
pub record Lists (l : Listed) (own : Option (List ℕ)) (ins bound : List PinIn) (outs : List PinOut) (pins : List Pin) : Type 0 where
  pub instance : instance_in l ≡ own
  pub inputs : map shown_wired l.inputs.items ≡ zip ins pins
  pub in_outs : map shown_wired l.in_outs.items ≡ zip bound (drop (length ins) pins)
  pub outputs : l.outputs.now ≡ outs

-- this is what a block is that calls this and lists that, whatever inputs are counted beside: they are so at functions alone
abbrev pub IsBlock : List Pou → Pou → Option Callee → Listed → ElementKind → Type 0
IsBlock pous p c l k = (inputs : List PinIn) → k ≡ block_by pous p c (instance_in l) inputs (map shown_wired l.inputs.items) (map shown_wired l.in_outs.items) l.outputs.now
