use Rattle.std.proofs.Common.{Bool, refl, sym, ap, ◌∙◌}
use Rattle.plcx_conditions.specs.declared.broken.Condition.TheVariants.{Types}
use Rattle.plcx_conditions.specs.Broken.{broken_if}
use Rattle.plcx_conditions.specs.First.{first_of}
use Rattle.plcx_known.specs.declared.types.VarType.TheVariants.{Block}
use Rattle.plcx_known.specs.Unit.{bare_of}
use Rattle.plcx_known.specs.Types.{parts_of}
use Rattle.plcx_unit.proofs.Acting.{lacks_is, none_lacks}
use Rattle.plcx_unit.proofs.here.Here.instance.Goals as goal

pub returns-in-Unknown : goal.returns-in-Unknown
unfolding first_of
returns-in-Unknown c = rw c.in-Unknown.is refl

pub returns-in-Standard : goal.returns-in-Standard
unfolding first_of
returns-in-Standard c = rw c.in-Standard.is
    (sym (ap (λ (b : Bool). first_of (broken_if b Types c.args.instance.now.span.start)) (none_lacks (bare_of c.args.self.now.scope.now) c.in-Standard.field-0 c.args.args.now)))

pub returns-in_ok-lacks-in-Block : goal.returns-in_ok-lacks-in-Block
returns-in_ok-lacks-in-Block c =
    let unit = bare_of c.args.self.now.scope.now in
    let lacks = c.in_ok-lacks-in-Block.ensures ∙ lacks_is unit (parts_of unit (Block c.in-Block.place)) c.args.args.now c.args.names.now c.requires in
    rw c.in-Block.is (c.broken_if.ensures ∙ ap (λ (b : Bool). first_of (broken_if b Types c.args.instance.now.span.start)) lacks)
