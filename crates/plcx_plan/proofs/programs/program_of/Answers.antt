use Rattle.std.proofs.Common.{sym, ap, ◌∙◌}
use Rattle.plcx_plan.specs.Conditions.{program_at}
use Rattle.plcx_plan.proofs.Options.{no_name, no_place, program_some, program_none}
use Rattle.plcx_plan.proofs.programs.program_of.Goals as goal

pub returns-clause-some : goal.returns-clause-some
returns-clause-some c =
    let key = c.as_slice.ensures.value ∙ c.in_ok-key.ensures in
    program_some c.args.programs.now c.args.element.now c.in-Some.name.now c.in-Some-place.place c.program_at.result (sym c.in-Some.ensures) (ap (program_at c.args.programs.now) (sym key) ∙ sym c.in-Some-place.ensures) c.program_at.ensures

pub returns-clause-none : goal.returns-clause-none
returns-clause-none c =
    let key = c.as_slice.ensures.value ∙ c.in_ok-key.ensures in
    program_none c.args.programs.now c.args.element.now c.in-Some.name.now c.in-Some-place.place c.program_at.result (sym c.in-Some.ensures) (ap (program_at c.args.programs.now) (sym key) ∙ sym c.in-Some-place.ensures) c.program_at.ensures

pub returns-in_default-clause-none : goal.returns-in_default-clause-none
returns-in_default-clause-none c = λ pou of. no_name c.args.programs.now c.args.element.now pou (sym c.in_default.ensures) of

pub returns-in_default-place-clause-none : goal.returns-in_default-place-clause-none
returns-in_default-place-clause-none c =
    let key = c.as_slice.ensures.value ∙ c.in_ok-key.ensures in
    λ pou of. no_place c.args.programs.now c.args.element.now c.in-Some.name.now pou (sym c.in-Some.ensures) (ap (program_at c.args.programs.now) (sym key) ∙ sym c.in_default-place.ensures) of
