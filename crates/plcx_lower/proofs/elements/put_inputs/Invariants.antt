use Rattle.std.proofs.Common.{◌≡◌, ◌++◌, map, drop}
use Rattle.plcx_meaning.specs.Templates.{input_text}
use Rattle.plcx_st.specs.Meant.{arg_meant}
use Rattle.plcx_drawn.specs.Shown.{shown_input_pin}
use Rattle.plcx_lower.proofs.elements.put_inputs.Given as goal

-- the arguments so far, and those that are left
abbrev pub invariant-loop-input : goal.invariant-loop-input
invariant-loop-input l =
    map arg_meant l.args.items ++ map input_text (map shown_input_pin (drop l.input-index l.inputs)) ≡ map arg_meant l.fn.args.items ++ map input_text (map shown_input_pin l.inputs)
