use Rattle.std.proofs.Common.{List, [], map, take, drop, refl, ap, ◌+◌, ◌∙◌}
use Rattle.plcx_st.specs.Meant.{kind_meant}
use Rattle.plcx_conditions.specs.First.{first_of, sooner}
use Rattle.plcx_conditions.specs.Placed.{Declared}
use Rattle.plcx_conditions.specs.Declarations.{broken_in_variable, broken_in_variables}
use Rattle.plcx_known.specs.Unit.{bare_of}
use Rattle.plcx_known.specs.Owned.{shown_variable}
use Rattle.plcx_unit.specs.Rest.{word_of, rest_variables}
use Rattle.plcx_unit.proofs.Folding.{begins, goes_on, ends}
use Rattle.plcx_unit.proofs.Declared.{variable_step, again_is, typed_at, variables_are}
use Rattle.plcx_unit.proofs.declarations.Judge.variables_broken.Goals as goal

pub loop-place-init : goal.loop-place-init
loop-place-init c = begins _

pub loop-place-preserved : goal.loop-place-preserved
loop-place-preserved c =
    let unit = bare_of c.args.self.now in
    let kind = kind_meant c.args.kind in
    let all = c.variables-variables.result.now in
    let i = c.loop-place.place in
    let own = c.index-variables-place.result in
    let again = rw c.name.ensures at c.in_ok-again.ensures in
    goes_on (rest_variables unit kind all) all i own (broken_in_variable unit kind (map word_of (take i all)) (shown_variable own)) c.loop-place.first _ _
    c.loop-place-test.true c.index-variables-place.is
    (variable_step unit kind all i own (drop (i + 1) all) c.loop-place-test.true c.index-variables-place.is)
    (c.sooner-first.ensures ∙ ap (sooner c.loop-place.first) (c.variable_broken.ensures (map word_of (take i all)) (again ∙ again_is all c.args.owner.now i own c.variables-variables.ensures)
    (typed_at unit all c.args.owner.now i own c.variables-variables.ensures c.loop-place-test.true c.index-variables-place.is c.requires)))
    c.loop-place.invariant

pub returns : goal.returns
returns c =
    let unit = bare_of c.args.self.now in
    let kind = kind_meant c.args.kind in
    let all = c.variables-variables.result.now in
    ends (rest_variables unit kind all) all c.loop-place.place c.loop-place.first _ c.loop-place-test.false refl c.loop-place.invariant
    ∙ ap (λ (ds : List Declared). first_of (broken_in_variables unit kind [] ds)) (variables_are all c.args.owner.now c.variables-variables.ensures)
