use Rattle.std.proofs.Common.{◌≡◌, ◌<◌, ◌∙◌, List, Some, length, sym, subst}
use Rattle.std.specs.Prelude.{slice_get, ◌&&◌}
use Rattle.plcx_state.specs.declared.layout.Leaf.{Leaf}
use Rattle.plcx_state.specs.Layouts.{is_kept, meant_path}
use Rattle.plcx_keep.specs.Carries.{is_from_old, row_of}
use Rattle.plcx_keep.proofs.Found.{none_has, one_has}
use Rattle.plcx_keep.proofs.Lists.{read_there}
use Rattle.plcx_keep.proofs.carry.is_carried.Goals as goal

pub returns-in_default : goal.returns-in_default
returns-in_default c =
    sym (none_has (meant_path c.args.leaf.now.path) (λ (leaf : Leaf). is_kept leaf && is_from_old (row_of 0 leaf (Some c.args.old)).fate) c.args.after.now c.requires.told.apart (sym c.in_ok-number.ensures.value ∙ c.in_default.is))

pub returns : goal.returns
returns c =
    let n = c.in-Some.number in
    let leaf = c.index-leaves-number.result in
    let within = rw c.in-Some.is at c.in_ok-number.ensures.within in
    let below : n < length c.leaves.result.now = subst (λ (ls : List Leaf). n < length ls) (sym c.leaves.ensures) within in
    let there : slice_get c.args.after.now n ≡ Some leaf = subst (λ (ls : List Leaf). slice_get ls n ≡ Some leaf) c.leaves.ensures (read_there c.leaves.result.now n leaf below c.index-leaves-number.is) in
    c.has_from.ensures
    ∙ sym (one_has (meant_path c.args.leaf.now.path) (λ (x : Leaf). is_kept x && is_from_old (row_of 0 x (Some c.args.old)).fate) c.args.after.now c.requires.told.apart n leaf (sym c.in_ok-number.ensures.value ∙ c.in-Some.is) there)
