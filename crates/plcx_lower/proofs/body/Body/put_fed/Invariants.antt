use Rattle.std.proofs.Common.{◌≡◌, ◌++◌, map, drop}
use Rattle.plcx_meaning.specs.Templates.{feed_text}
use Rattle.plcx_st.specs.Meant.{stmt_meant}
use Rattle.plcx_drawn.specs.Shown.{shown_port}
use Rattle.plcx_lower.proofs.body.Body.put_fed.Given as goal

-- the statements so far, and those of the outputs that are left
abbrev pub invariant-loop-port : goal.invariant-loop-port
invariant-loop-port l =
    map stmt_meant l.self.statements.items ++ map (feed_text l.id) (map shown_port (drop l.port-index l.fed))
    ≡ map stmt_meant l.fn.self.statements.items ++ map (feed_text l.id) (map shown_port l.fed)
