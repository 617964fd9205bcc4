use Rattle.std.proofs.Common.{length, take, ◌∙◌, arith}
use Rattle.std.proofs.lemmas.List.{length-take, get_or-take}
use Rattle.plcx_steps.specs.Numbered.{no_value, cells, argument_at}
use Rattle.plcx_steps.specs.Acting.{here_of, no_argument}
use Rattle.plcx_steps.proofs.Places.{map_by}
use Rattle.plcx_steps.proofs.acting.gather.Goals as goal

pub returns-clause-values : goal.returns-clause-values
returns-clause-values c =
    let n = length c.args.arguments.now in
    let same = c.loop-i.invariant.same in
    let few = c.requires.few in
    let long = length-take n c.loop-i.inputs.items in
    let past = c.loop-i-test.false in
    map_by (argument_at (here_of c.args.spot.now) (cells c.args.store.now.values c.args.store.now.memories c.args.own.now)) (take n c.loop-i.inputs.items) c.args.arguments.now no_value no_argument (omega arith)
    (λ k h. get_or-take n c.loop-i.inputs.items k no_value (omega arith) ∙ c.loop-i.invariant.done k (omega arith))
