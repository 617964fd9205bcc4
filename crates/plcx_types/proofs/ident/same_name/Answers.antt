use Rattle.std.proofs.Common.{◌<◌, length, sym, ◌∙◌, arith}
use Rattle.plcx_types.proofs.Lowercase.{lower-at}
use Rattle.plcx_types.proofs.ident.same_name.Goals as goal

pub returns-then-to_ascii_lowercase : goal.returns-then-to_ascii_lowercase
returns-then-to_ascii_lowercase c =
    let in_left : c.loop-i.i < length c.args.left.now = omega arith in
    let in_right : c.loop-i.i < length c.args.right.now = omega arith in
    ((λ h. cc), (λ same. absurd (c.if-to_ascii_lowercase.true (c.to_ascii_lowercase.ensures.value ∙ lower-at _ _ _ in_left in_right same ∙ sym c.to_ascii_lowercase-in-loop-i.ensures.value))))
