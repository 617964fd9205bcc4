-- What is prepared of some POUs of a unit: of those of lower levels, and of the first ones of a level.
use Rattle.std.specs.Prelude.{◌≡◌, ℕ, ◌<◌, ◌≤◌, ◌⊎◌, List, [], ◌++◌, Some, length, set, slice_get}
use Rattle.plcx_types.specs.Value.{Value}
use Rattle.plcx_meaning.specs.Tree.{PouText, statements}
use Rattle.plcx_meaning.specs.Layout.{variables_of}
use Rattle.plcx_steps.specs.declared.program.Operand.{Operand}
use Rattle.plcx_steps.specs.declared.program.Argument.{Argument}
use Rattle.plcx_numbered.specs.Numbers.{inner_depth}
use Rattle.plcx_text_steps.specs.declared.text.Arm.{Arm}
use Rattle.plcx_text_steps.specs.declared.text.Entry.{Entry}
use Rattle.plcx_text_numbered.specs.Numbers.{temporary_values, level}
use Rattle.plcx_text_numbered.specs.Texts.{Owner}
use Rattle.plcx_text_pieces.specs.Called.{numbers_of}
use Rattle.plcx_text_pieces.specs.Pieces.{Part, Piece, Start, after, boxed, statements_piece}
use Rattle.plcx_text_pieces.specs.Laws.{StandsIn}

-- What is prepared: the inputs of functions, what in-outs are bound to, sections, arms, and where the POUs of the unit begin, each at its place.
pub record Made : Type 0 where
  pub arguments : List Argument
  pub bindings : List Operand
  pub sections : List Part
  pub arms : List Arm
  pub entries : List Entry

-- a POU at its place in the unit
abbrev pub owner : List PouText → ℕ → PouText → Owner
owner unit k p = record { unit = unit; pou = p; number = k }

-- what the body of a POU adds, from a start on
abbrev pub body_piece : Owner → Start → Piece
body_piece o s = statements_piece (numbers_of o) (statements o.pou.body) s

-- where a body begins behind what is prepared, with the wires of its temporaries
abbrev pub start_at : Made → List Value → Start
start_at m temporaries = record {
  arguments = length m.arguments;
  bindings = length m.bindings;
  sections = length m.sections;
  arms = length m.arms;
  wires = length temporaries;
}

-- how many levels of function blocks are below a POU
abbrev pub level_of : List PouText → PouText → ℕ
level_of unit p = level inner_depth unit p

-- a POU has its piece among what is prepared, behind the sections of all POUs of lower levels
pub record IsMade (unit : List PouText) (m : Made) (k : ℕ) (p : PouText) : Type 0 where
  pub start : Start
  pub temporaries : start.wires ≡ length (temporary_values (variables_of p.blocks))
  pub entry : Entry
  pub begins : slice_get m.entries k ≡ Some entry
  pub wires : entry.wires.items ≡ temporary_values (variables_of p.blocks) ++ (body_piece (owner unit k p) start).wires
  pub section : entry.section ≡ (after start (body_piece (owner unit k p) start)).sections
  pub arguments : StandsIn m.arguments start.arguments (body_piece (owner unit k p) start).arguments
  pub bindings : StandsIn m.bindings start.bindings (body_piece (owner unit k p) start).bindings
  pub sections : StandsIn m.sections start.sections (boxed k (body_piece (owner unit k p) start)).sections
  pub arms : StandsIn m.arms start.arms (body_piece (owner unit k p) start).arms
  pub behind : (j : ℕ) (q : PouText) (e : Entry) → slice_get unit j ≡ Some q → level_of unit q < level_of unit p → slice_get m.entries j ≡ Some e → e.section < start.sections

-- the POU is of a lower level, or of this one and at an earlier place
abbrev pub IsBefore : List PouText → (level place : ℕ) → ℕ → PouText → Type 0
IsBefore unit level place k p = (level_of unit p < level) ⊎ ((level_of unit p ≡ level) × (k < place))

-- a section is one of those of a POU that is prepared
pub record IsTaken (unit : List PouText) (level place : ℕ) (m : Made) (j k : ℕ) : Type 0 where
  pub p : PouText
  pub is : slice_get unit k ≡ Some p
  pub before : IsBefore unit level place k p
  pub made : IsMade unit m k p
  pub from : made.start.sections ≤ j
  pub to : j ≤ made.entry.section

-- the POUs of lower levels are prepared, and those of this one at earlier places
pub record Reaches (unit : List PouText) (level place : ℕ) (m : Made) : Type 0 where
  pub count : length m.entries ≡ length unit
  pub each : (k : ℕ) (p : PouText) → slice_get unit k ≡ Some p → IsBefore unit level place k p → IsMade unit m k p
  pub owned : (j : ℕ) (x : Part) → slice_get m.sections j ≡ Some x → IsTaken unit level place m j x.0

-- a POU is prepared behind what was
pub record AddsPou (o : Owner) (before behind : Made) : Type 0 where
  pub entry : Entry
  pub entries : behind.entries ≡ set before.entries o.number entry
  pub wires : entry.wires.items ≡ temporary_values (variables_of o.pou.blocks) ++ (body_piece o (start_at before (temporary_values (variables_of o.pou.blocks)))).wires
  pub section : entry.section ≡ (after (start_at before (temporary_values (variables_of o.pou.blocks))) (body_piece o (start_at before (temporary_values (variables_of o.pou.blocks))))).sections
  pub arguments : behind.arguments ≡ before.arguments ++ (body_piece o (start_at before (temporary_values (variables_of o.pou.blocks)))).arguments
  pub bindings : behind.bindings ≡ before.bindings ++ (body_piece o (start_at before (temporary_values (variables_of o.pou.blocks)))).bindings
  pub sections : behind.sections ≡ before.sections ++ (boxed o.number (body_piece o (start_at before (temporary_values (variables_of o.pou.blocks))))).sections
  pub arms : behind.arms ≡ before.arms ++ (body_piece o (start_at before (temporary_values (variables_of o.pou.blocks)))).arms
