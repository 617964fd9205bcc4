use Rattle.std.proofs.Common.{◌≡◌, ◌++◌, map, drop}
use Rattle.plcx_meaning.specs.Templates.{in_out_text}
use Rattle.plcx_st.specs.Meant.{arg_meant}
use Rattle.plcx_drawn.specs.Shown.{shown_in_out_pin}
use Rattle.plcx_lower.proofs.elements.put_in_outs.Given as goal

-- the arguments so far, and those that are left
abbrev pub invariant-loop-in_out : goal.invariant-loop-in_out
invariant-loop-in_out l =
    map arg_meant l.args.items ++ map in_out_text (map shown_in_out_pin (drop l.in_out-index l.in_outs)) ≡ map arg_meant l.fn.args.items ++ map in_out_text (map shown_in_out_pin l.in_outs)
