use Rattle.std.proofs.Common.{◌≡◌, length, map, ap, ◌∙◌, subst, sym, arith}
use Rattle.std.proofs.lemmas.List.{length-map}
use Rattle.plcx_st.specs.Meant.{pou_meant}
use Rattle.plcx_text_order.specs.Made.{Reaches}
use Rattle.plcx_text_order.proofs.Reaching.{next_level}
use Rattle.plcx_text_program.specs.Making.{made_of}
use Rattle.plcx_text_program.proofs.pous.with_level.Goals as goal

pub returns : goal.returns
returns c =
    let unit = map pou_meant c.args.tables.now in
    let made = made_of c.loop-place.all in
    let high = c.loop-place-test.false in
    let low = c.loop-place.auto.place-end in
    let count : length unit ≡ length c.args.pous.now = length-map c.args.tables.now pou_meant ∙ ap length (sym c.requires.pous) in
    let last : c.loop-place.place ≡ length unit = omega (arith, high, low, count) in
    next_level unit c.args.level made (subst (λ n. Reaches unit c.args.level n made) last c.loop-place.invariant)
