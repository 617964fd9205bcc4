use Rattle.std.proofs.Common.{◌≡◌, ◌++◌, map, drop}
use Rattle.plcx_types.specs.Lists.{Each}
use Rattle.plcx_drawn.specs.Shown.{shown_port}
use Rattle.plcx_declare.specs.Named.{IsNamed}
use Rattle.plcx_st.specs.Meant.{decl_meant}
use Rattle.plcx_declare.specs.Texts.{wire_of}
use Rattle.plcx_declare.proofs.declaring.put_ports.Given as goal

-- the declarations so far, and those of the wires that are left
abbrev pub invariant-loop-port : goal.invariant-loop-port
invariant-loop-port l = record {
  made : map decl_meant l.decls.items ++ map (wire_of l.id) (map shown_port (drop l.port-index l.wires)) ≡ map decl_meant l.fn.decls.items ++ map (wire_of l.id) (map shown_port l.wires);
  range : Each IsNamed (map (wire_of l.id) (map shown_port (drop l.port-index l.wires)));
}
