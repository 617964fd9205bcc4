use Rattle.std.proofs.Common.{◌≡◌, ◌++◌, map, drop}
use Rattle.std.specs.List.{flat_map}
use Rattle.plcx_types.specs.Lists.{Each}
use Rattle.plcx_meaning.specs.Templates.{element_wires}
use Rattle.plcx_drawn.specs.Shown.{shown_element}
use Rattle.plcx_declare.specs.Named.{IsNamed}
use Rattle.plcx_st.specs.Meant.{decl_meant}
use Rattle.plcx_declare.proofs.declaring.wire_decls.Given as goal

-- the declarations so far, and those of the elements that are left
abbrev pub invariant-loop-element : goal.invariant-loop-element
invariant-loop-element l = record {
  made : map decl_meant l.decls.items ++ flat_map element_wires (map shown_element (drop l.element-index l.elements)) ≡ flat_map element_wires (map shown_element l.elements);
  range : Each IsNamed (flat_map element_wires (map shown_element (drop l.element-index l.elements)));
}
