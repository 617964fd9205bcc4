use Rattle.std.proofs.Common.{◌≡◌, ◌∙◌, Some, None, ap, sym}
use Rattle.plcx_st.specs.declared.tree.Unit as tree
use Rattle.plcx_words.specs.Says.{said_by_run}
use Rattle.plcx_execute.specs.Choosing.{chosen, count}
use Rattle.plcx_execute.proofs.Chosen.{chosen_is, none_is, count_is}
use Rattle.plcx_execute.proofs.executing.execute.Goals as goal

pub returns-in_default-clause-err : goal.returns-in_default-clause-err
returns-in_default-clause-err g c =
    let own = c.args.ready.now.pous in
    let program = (said_by_run c.args.run.now).program in
    let pous = c.as_slice-pous.ensures ∙ ap (λ (u : tree.Unit). u.pous) c.unit.ensures.unit in
    let none : chosen program own ≡ None = ap (chosen program) (sym pous) ∙ sym c.in_default.ensures in
    (c.count.ensures ∙ ap count pous ∙ count_is own, none_is own program none)

pub executed-requires : goal.executed-requires
executed-requires g c =
    let own = c.args.ready.now.pous in
    let program = (said_by_run c.args.run.now).program in
    let pous = c.as_slice-pous.ensures ∙ ap (λ (u : tree.Unit). u.pous) c.unit.ensures.unit in
    let some : chosen program own ≡ Some c.in-Some.pou.now = ap (chosen program) (sym pous) ∙ sym c.in-Some.ensures in
    chosen_is own program c.in-Some.pou.now some
