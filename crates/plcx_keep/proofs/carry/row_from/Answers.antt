use Rattle.std.proofs.Common.{◌∙◌, sym, ap}
use Rattle.std.specs.Prelude.{if◌then◌else◌}
use Rattle.plcx_types.specs.Literal.{value}
use Rattle.plcx_keep.specs.declared.carry.Fate.TheVariants.{Kept, Changed, Fresh}
use Rattle.plcx_keep.specs.Carries.{can_change, row}
use Rattle.plcx_keep.proofs.Values.{changed_row}
use Rattle.plcx_keep.proofs.carry.row_from.Goals as goal

pub returns-in-Some : goal.returns-in-Some
returns-in-Some c =
    let n = c.args.number in
    let leaf = c.args.leaf.now in
    let new = value leaf.ty c.args.old.n in
    let fresh = row n Fresh leaf.initial in
    c.row-in-Some.ensures
    ∙ changed_row n (can_change c.args.old leaf.ty) new c.in-Some.value fresh (sym c.changed.ensures ∙ c.in-Some.is)
    ∙ sym (ap (λ b. if b then row n Kept c.args.old else (if can_change c.args.old leaf.ty then row n Changed new else fresh)) (sym c.is_of.ensures ∙ c.if-is_of.false))
