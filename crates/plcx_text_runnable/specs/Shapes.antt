-- The types of an instance's leaves and in-outs, by what is declared.
use Rattle.std.specs.Prelude.{List, [], map}
use Rattle.plcx_meaning.specs.Tree.{PouText}
use Rattle.plcx_meaning.specs.Layout.{variables_of}
use Rattle.plcx_steps.specs.Typed.{Shape}
use Rattle.plcx_numbered.specs.Numbers.{Place}
use Rattle.plcx_runnable.specs.Shapes.{in_out_types}
use Rattle.plcx_text_numbered.specs.Numbers.{places_of}

-- the types of the leaves of an instance of a POU, and of its in-outs; a text has no memories but leaves
abbrev pub types_of : List PouText → PouText → Shape
types_of unit p = record {
  leaves = map (λ (x : Place). x.1) (places_of unit (variables_of p.blocks));
  memories = [];
  in_outs = in_out_types (variables_of p.blocks);
}

-- and of each POU, in the order of the unit
abbrev pub shapes_of : List PouText → List Shape
shapes_of unit = map (types_of unit) unit
