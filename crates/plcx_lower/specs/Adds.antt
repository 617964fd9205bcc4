-- How the statements of a body grow.
use Rattle.std.specs.Prelude.{◌≡◌, List, ◌++◌, map}
use Rattle.plcx_meaning.specs.Tree.{Statement}
use Rattle.plcx_st.specs.Meant.{stmt_meant}
use Rattle.plcx_lower.specs.declared.body.Body.{Body}

-- new is old with these statements behind it
abbrev pub Adds : (old new : Body) → List Statement → Type 0
Adds old new ss = map stmt_meant new.statements.items ≡ map stmt_meant old.statements.items ++ ss
