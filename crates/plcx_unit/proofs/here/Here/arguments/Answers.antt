use Rattle.std.proofs.Common.{drop, refl, ap, ◌+◌, ◌∙◌}
use Rattle.plcx_conditions.specs.First.{sooner}
use Rattle.plcx_conditions.specs.Statements.{parts_known}
use Rattle.plcx_known.specs.Types.{meaning_of}
use Rattle.plcx_unit.specs.Pieces.{setting_of}
use Rattle.plcx_unit.specs.Rest.{rest_arguments, at_argument}
use Rattle.plcx_unit.proofs.Folding.{begins, goes_on, ends}
use Rattle.plcx_unit.proofs.Acting.{argument_step}
use Rattle.plcx_unit.proofs.here.Here.arguments.Goals as goal

pub loop-place-init : goal.loop-place-init
loop-place-init c = begins _

pub loop-place-preserved : goal.loop-place-preserved
loop-place-preserved c =
    let s = setting_of c.args.self.now in
    let parts = parts_known (meaning_of s.unit c.args.ty) in
    let args = c.args.args.now in
    let names = c.args.names.now in
    let i = c.loop-place.place in
    let a = c.index-args-place.result in
    goes_on (rest_arguments s parts args) args i a (at_argument s parts names i a) c.loop-place.first _ _ c.loop-place-test.true c.index-args-place.is
    (argument_step s parts args names i a (drop (i + 1) args) c.requires c.loop-place-test.true c.index-args-place.is)
    (c.sooner-first.ensures ∙ ap (sooner c.loop-place.first) c.in_ok-argument.ensures) c.loop-place.invariant

pub returns : goal.returns
returns c =
    let s = setting_of c.args.self.now in
    let parts = parts_known (meaning_of s.unit c.args.ty) in
    ends (rest_arguments s parts c.args.args.now) c.args.args.now c.loop-place.place c.loop-place.first _ c.loop-place-test.false refl c.loop-place.invariant
