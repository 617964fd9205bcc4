-- The POU that a drawing is, among the diagrams that have a meaning.
use Rattle.std.specs.Prelude.{List}
use Rattle.plcx_meaning.specs.Diagram as diagram
use Rattle.plcx_model.specs.declared.project.Pou.{Pou}
use Rattle.plcx_view.specs.Declared.{kind_of_pou, lists_of}
use Rattle.plcx_drawn.specs.declared.drawing.Drawing.{Drawing}
use Rattle.plcx_drawn.specs.Shown.{shown_elements, shown_networks}

-- a drawing of a POU that stands among these
abbrev pub shown_pou : List Pou → Drawing → diagram.Pou
shown_pou pous d = record {
  kind = kind_of_pou d.pou.now.kind;
  name = d.pou.now.name;
  lists = lists_of pous d.pou.now;
  elements = shown_elements d;
  networks = shown_networks d;
}
