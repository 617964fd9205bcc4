use Rattle.std.proofs.Common.{sym, ap, ◌∙◌, Option}
use Rattle.std.specs.Option.{option_and_then}
use Rattle.plcx_types.specs.Value.{Value}
use Rattle.plcx_keep.proofs.Lists.{read_there}
use Rattle.plcx_keep.proofs.States.{has_kept, has_none}
use Rattle.plcx_keep.proofs.carry.value_of.Goals as goal

pub get-requires : goal.get-requires
get-requires c =
    let leaf = c.index-leaves-number.result in
    let there = read_there c.args.leaves.now c.args.number leaf c.requires.within c.index-leaves-number.is in
    (leaf.ty, has_kept c.args.leaves.now c.args.state.now c.requires.state c.args.number leaf there (sym c.is_kept.ensures ∙ c.if-is_kept.true))

pub returns-else-is_kept : goal.returns-else-is_kept
returns-else-is_kept c =
    let leaf = c.index-leaves-number.result in
    let there = read_there c.args.leaves.now c.args.number leaf c.requires.within c.index-leaves-number.is in
    sym (ap (option_and_then (λ (o : Option Value). o)) (has_none c.args.leaves.now c.args.state.now c.requires.state c.args.number leaf there (sym c.is_kept.ensures ∙ c.if-is_kept.false)))
