use Rattle.std.proofs.Common.{map}
use Rattle.plcx_types.specs.Lists.{Each}
use Rattle.plcx_meaning.specs.Tree.{statements, arms}
use Rattle.plcx_meaning.specs.Ready.{StatementIsReady}
use Rattle.plcx_st.specs.Meant.{stmt_meant}
use Rattle.plcx_st.specs.Printer.{arm_meant}
use Rattle.plcx_text_lines.specs.Added.{ArmIsReady}
use Rattle.plcx_text_lines.proofs.Choosing.{Goes, GoesArms}
use Rattle.plcx_text_lines.proofs.statements.+statement.Given as goal

-- the statements so far, whatever the rest adds
abbrev pub invariant-statements-loop-s : goal.invariant-statements-loop-s
invariant-statements-loop-s g l =
    let n = g.N.Numbers.numbers l.numbers in
    Each (StatementIsReady n.names.scope) (map stmt_meant l.body) → Goes n l.body l.s-index l.all (statements (map stmt_meant l.body)) l.fn.before

-- and the arms so far
abbrev pub invariant-sections-loop-arm : goal.invariant-sections-loop-arm
invariant-sections-loop-arm g l =
    let n = g.N.Numbers.numbers l.numbers in
    Each (ArmIsReady n.names.scope) (map arm_meant l.arms) → GoesArms n l.arms l.arm-index l.all l.choices.items (arms (map arm_meant l.arms)) l.fn.before
