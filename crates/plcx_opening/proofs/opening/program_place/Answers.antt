use Rattle.std.proofs.Common.{◌≤◌, List, length, sym, ap, ◌∙◌, arith}
use Rattle.std.specs.List.{position}
use Rattle.std.specs.Coded.{le_prop}
use Rattle.std.proofs.Math.Logic.{∥∥₁_elim}
use Rattle.plcx_types.specs.Limits.{max_pous}
use Rattle.plcx_model.specs.declared.project.Pou.{Pou}
use Rattle.plcx_model.specs.declared.project.Project.{Project}
use Rattle.plcx_opening.specs.Named.{is_program_named}
use Rattle.plcx_opening.proofs.Places.{no_program, program_found, low_place}
use Rattle.plcx_opening.proofs.opening.program_place.Goals as goal

pub overflow_cast-number : goal.overflow_cast-number
overflow_cast-number c =
    let a = c.args.checked.now in
    let few : length a.project.pous ≤ max_pous = ∥∥₁_elim a.checked le_prop (λ checked. checked.sound.few) in
    let low = low_place (is_program_named c.args.name.now) c.pous.result.now c.in-Some.place (sym c.place_among.ensures ∙ c.in-Some.is) in
    let same = ap length (c.pous.ensures ∙ ap (λ (q : Project). q.pous) c.project.ensures) in
    omega arith

pub returns-in-None : goal.returns-in-None
returns-in-None c =
    let a = c.args.checked.now in
    no_program a.project a.links a.types a.plan c.args.name.now
    (ap (λ (ps : List Pou). position (is_program_named c.args.name.now) ps) (sym (c.pous.ensures ∙ ap (λ (q : Project). q.pous) c.project.ensures)) ∙ sym c.place_among.ensures ∙ c.in-None.is)

pub returns-in-Some : goal.returns-in-Some
returns-in-Some c =
    let a = c.args.checked.now in
    program_found a.project a.links a.types a.plan c.args.name.now c.in-Some.place
    (ap (λ (ps : List Pou). position (is_program_named c.args.name.now) ps) (sym (c.pous.ensures ∙ ap (λ (q : Project). q.pous) c.project.ensures)) ∙ sym c.place_among.ensures ∙ c.in-Some.is)
