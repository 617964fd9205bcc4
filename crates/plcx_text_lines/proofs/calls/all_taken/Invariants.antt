use Rattle.std.proofs.Common.{map}
use Rattle.plcx_types.specs.Lists.{Each}
use Rattle.plcx_st.specs.Meant.{arg_meant}
use Rattle.plcx_text_lines.specs.Added.{Suits}
use Rattle.plcx_text_lines.proofs.Calling.{Goes}
use Rattle.plcx_text_lines.proofs.calls.all_taken.Given as goal

-- the lines that store, whatever the rest of the arguments adds
abbrev pub invariant-loop-arg : goal.invariant-loop-arg
invariant-loop-arg g l =
    let c = (g.N.Numbers.numbers l.numbers).names in
    Each (Suits c.scope l.instance) (map arg_meant l.args) → Goes c l.instance l.args l.arg-index l.all l.stores.items (map arg_meant l.args) l.fn.before
