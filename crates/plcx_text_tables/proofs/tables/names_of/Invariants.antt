use Rattle.std.proofs.Common.{◌≡◌, ◌++◌, drop, map}
use Rattle.plcx_st.specs.declared.tree.PouText.{PouText}
use Rattle.plcx_text_tables.proofs.tables.names_of.Given as goal

abbrev pub invariant-loop-pou : goal.invariant-loop-pou
invariant-loop-pou l = map (λ s. s.now) l.names.items ++ map (λ (p : PouText). p.name.name) (drop l.pou-index l.pous) ≡ map (λ (p : PouText). p.name.name) l.pous
