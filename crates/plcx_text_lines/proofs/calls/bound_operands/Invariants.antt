use Rattle.std.proofs.Common.{◌≡◌, ◌++◌, drop, map}
use Rattle.plcx_types.specs.Name.{in_lower_case}
use Rattle.plcx_st.specs.Meant.{arg_meant}
use Rattle.plcx_text_numbered.specs.Numbers.{bound_operands}
use Rattle.plcx_text_lines.proofs.calls.bound_operands.Given as goal

abbrev pub invariant-loop-name : goal.invariant-loop-name
invariant-loop-name g l =
    let c = (g.N.Numbers.numbers l.numbers).names in
    l.operands.items ++ bound_operands c (map arg_meant l.args) (map (λ n. in_lower_case n.now) (drop l.name-index l.in_outs)) ≡ bound_operands c (map arg_meant l.args) (map (λ n. in_lower_case n.now) l.in_outs)
