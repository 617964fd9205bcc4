use Rattle.std.proofs.Common.{◌≡◌, ◌++◌, map, drop}
use Rattle.plcx_types.specs.Lists.{Each}
use Rattle.plcx_drawn.specs.Shown.{shown_port}
use Rattle.plcx_declare.specs.Named.{IsNamed}
use Rattle.plcx_st.specs.Meant.{decl_meant}
use Rattle.plcx_declare.specs.Texts.{fed_memory}
use Rattle.plcx_declare.proofs.declaring.put_fed.Given as goal

-- the declarations so far, and those of the outputs that are left
abbrev pub invariant-loop-port : goal.invariant-loop-port
invariant-loop-port l = record {
  made : map decl_meant l.decls.items ++ map (fed_memory l.id) (map shown_port (drop l.port-index l.fed)) ≡ map decl_meant l.fn.decls.items ++ map (fed_memory l.id) (map shown_port l.fed);
  range : Each IsNamed (map (fed_memory l.id) (map shown_port (drop l.port-index l.fed)));
}
