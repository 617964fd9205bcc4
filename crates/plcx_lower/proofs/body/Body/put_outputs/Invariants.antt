use Rattle.std.proofs.Common.{◌≡◌, ◌++◌, map, drop}
use Rattle.plcx_meaning.specs.Templates.{output_text}
use Rattle.plcx_st.specs.Meant.{stmt_meant}
use Rattle.plcx_drawn.specs.Shown.{shown_output_pin}
use Rattle.plcx_lower.proofs.body.Body.put_outputs.Given as goal

-- the statements so far, and those of the outputs that are left
abbrev pub invariant-loop-output : goal.invariant-loop-output
invariant-loop-output l =
    map stmt_meant l.self.statements.items ++ map (output_text l.id l.instance) (map shown_output_pin (drop l.output-index l.outputs))
    ≡ map stmt_meant l.fn.self.statements.items ++ map (output_text l.id l.instance) (map shown_output_pin l.outputs)
