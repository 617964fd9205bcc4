-- What the law says of texts that are prepared level by level.
use Rattle.std.specs.Prelude.{◌≡◌, ℕ, List, Some, length, map, slice_get}
use Rattle.plcx_meaning.specs.Tree.{PouText}
use Rattle.plcx_meaning.specs.Layout.{variables_of}
use Rattle.plcx_meaning.specs.Ready.{IsReady}
use Rattle.plcx_steps.specs.declared.program.Body.{Body}
use Rattle.plcx_steps.specs.declared.program.Program.{Program}
use Rattle.plcx_steps.specs.Sound.{levels}
use Rattle.plcx_numbered.specs.Numbers.{in_out_names}
use Rattle.plcx_bodies.specs.Framed.{AreFramed}
use Rattle.plcx_text_steps.specs.declared.text.Entry.{Entry}
use Rattle.plcx_text_steps.specs.declared.text.Text.{Text}
use Rattle.plcx_text_numbered.specs.Numbers.{places_of}
use Rattle.plcx_text_numbered.specs.Texts.{IsTextOf}
use Rattle.plcx_text_pieces.specs.Laws.{part_of}
use Rattle.plcx_text_order.specs.Made.{Made, level_of, Reaches}

-- a body before it has its place: how many levels are below it, how much an instance has, and as many wires as the POU begins with
pub record IsBare (unit : List PouText) (p : PouText) (entry : Entry) (body : Body) : Type 0 where
  pub level : body.level ≡ level_of unit p
  pub leaves : body.leaves ≡ length (places_of unit (variables_of p.blocks))
  pub memories : body.memories ≡ 0
  pub in_outs : body.in_outs ≡ length (in_out_names (variables_of p.blocks))
  pub width : body.width ≡ length entry.wires.items

-- the bodies of all POUs, by where these begin
pub record AreBare (unit : List PouText) (entries : List Entry) (bodies : List Body) : Type 0 where
  pub count : length bodies ≡ length unit
  pub each : (k : ℕ) (p : PouText) (e : Entry) (body : Body) → slice_get unit k ≡ Some p → slice_get entries k ≡ Some e → slice_get bodies k ≡ Some body → IsBare unit p e body

-- a text and a program have what is prepared
pub record HasMade (program : Program) (text : Text) (m : Made) : Type 0 where
  pub arguments : program.arguments.items ≡ m.arguments
  pub bindings : program.bindings.items ≡ m.bindings
  pub sections : map part_of text.sections.items ≡ m.sections
  pub arms : text.arms.items ≡ m.arms
  pub entries : text.entries.items ≡ m.entries

-- What is prepared of the POUs of all levels of a ready unit is prepared of the unit, where each body has its place.
abbrev pub OrderedIsText : Type 0
OrderedIsText =
    (unit : List PouText) → IsReady unit → (m : Made) → Reaches unit levels 0 m
    → (program : Program) (text : Text) → HasMade program text m
    → (bare : List Body) → AreBare unit m.entries bare → AreFramed bare program.bodies.items → IsTextOf unit program text
