use Rattle.std.proofs.Common.{◌≡◌, ◌∙◌, Some, None, ap, sym}
use Rattle.std.specs.Option.{option_map}
use Rattle.plcx_simulate.specs.Choosing.{chosen, count}
use Rattle.plcx_simulate.proofs.Chosen.{chosen_is, none_is, count_is}
use Rattle.plcx_simulate.proofs.choosing.program_of.Goals as goal

pub returns-in-Some-clause-ok : goal.returns-in-Some-clause-ok
returns-in-Some-clause-ok c =
    let a = c.args.checked.now in
    let program = option_map (λ s. s.now) c.args.program in
    let pous = c.pous-pous.ensures ∙ ap (λ p. p.pous) c.project.ensures in
    let some : chosen program a.project.pous ≡ Some c.in-Some.pou.now = ap (chosen program) (sym pous) ∙ sym c.in-Some.ensures in
    chosen_is a.project a.links a.types a.plan program c.in-Some.pou.now some

pub returns-in-None-clause-count : goal.returns-in-None-clause-count
returns-in-None-clause-count c =
    let a = c.args.checked.now in
    let pous = c.pous-pous.ensures ∙ ap (λ p. p.pous) c.project.ensures in
    c.count.ensures ∙ ap count pous ∙ count_is a.project a.links a.types a.plan

pub returns-in-None-clause-missing : goal.returns-in-None-clause-missing
returns-in-None-clause-missing c =
    let a = c.args.checked.now in
    let program = option_map (λ s. s.now) c.args.program in
    let pous = c.pous-pous.ensures ∙ ap (λ p. p.pous) c.project.ensures in
    let none : chosen program a.project.pous ≡ None = ap (chosen program) (sym pous) ∙ sym c.in-None.ensures in
    none_is a.project a.links a.types a.plan program none
