use Rattle.std.proofs.Common.{◌≡◌, ◌++◌, map, drop}
use Rattle.plcx_types.specs.Lists.{Each}
use Rattle.plcx_view.specs.Declared.{declaration_of}
use Rattle.plcx_declare.specs.Named.{IsNamed}
use Rattle.plcx_st.specs.Meant.{decl_meant}
use Rattle.plcx_declare.proofs.declaring.variable_decls.Given as goal

-- the declarations so far, and those of the variables that are left
abbrev pub invariant-loop-variable : goal.invariant-loop-variable
invariant-loop-variable l = record {
  made : map decl_meant l.decls.items ++ map (declaration_of l.pous) (drop l.variable-index l.variables) ≡ map (declaration_of l.pous) l.variables;
  range : Each IsNamed (map (declaration_of l.pous) (drop l.variable-index l.variables));
}
