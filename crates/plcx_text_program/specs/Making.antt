-- What the code makes, in the terms of definitions.
use Rattle.std.specs.Prelude.{◌≡◌, List, [], map}
use Rattle.plcx_types.specs.Value.{Value}
use Rattle.plcx_text_pieces.specs.Laws.{part_of}
use Rattle.plcx_text_lines.specs.declared.emitting.Prepared.{Prepared}
use Rattle.plcx_text_order.specs.Made.{Made}
use Rattle.plcx_text_program.specs.declared.pous.Pous.{Pous}

-- what is prepared of POUs
abbrev pub made_of : Pous → Made
made_of all = record {
  arguments = all.prepared.arguments.items;
  bindings = all.prepared.bindings.items;
  sections = map part_of all.prepared.sections.items;
  arms = all.prepared.arms.items;
  entries = all.entries.items;
}

-- the same with these wires, and without lines
pub record Begins (before : Prepared) (values : List Value) (behind : Prepared) : Type 0 where
  pub lines : behind.lines.items ≡ []
  pub arguments : behind.arguments.items ≡ before.arguments.items
  pub bindings : behind.bindings.items ≡ before.bindings.items
  pub sections : behind.sections.items ≡ before.sections.items
  pub arms : behind.arms.items ≡ before.arms.items
  pub wires : behind.wires.items ≡ values

-- the wires are taken out
pub record Ends (before behind : Prepared) (values : List Value) : Type 0 where
  pub arguments : behind.arguments.items ≡ before.arguments.items
  pub bindings : behind.bindings.items ≡ before.bindings.items
  pub sections : behind.sections.items ≡ before.sections.items
  pub arms : behind.arms.items ≡ before.arms.items
  pub wires : values ≡ before.wires.items
