use Rattle.std.proofs.Common.{map}
use Rattle.std.proofs.lemmas.Bool.{iff_false}
use Rattle.plcx_st.specs.Meant.{pou_meant}
use Rattle.plcx_text_order.proofs.Reaching.{passes, reaches}
use Rattle.plcx_text_program.specs.Making.{made_of}
use Rattle.plcx_text_program.proofs.Ready.{meant_there}
use Rattle.plcx_text_program.proofs.pous.with_place.Goals as goal

pub returns-in_ok-with_pou : goal.returns-in_ok-with_pou
returns-in_ok-with_pou c =
    let tables = c.args.tables.now in
    let pou = c.args.pou.now in
    let place = c.args.place in
    let its = (c.is_of_level.ensures pou c.requires.there).0 c.if-is_of_level.true in
    reaches (map pou_meant tables) c.args.level (made_of c.args.before) place c.requires.reached (pou_meant pou) (meant_there tables c.requires.ready place pou c.requires.there) its (made_of c.in_ok-with_pou.field-0) c.in_ok-with_pou.ensures

pub returns-else-is_of_level : goal.returns-else-is_of_level
returns-else-is_of_level c =
    let tables = c.args.tables.now in
    let pou = c.args.pou.now in
    let place = c.args.place in
    let other = iff_false (c.is_of_level.ensures pou c.requires.there) c.if-is_of_level.false in
    passes (map pou_meant tables) c.args.level (made_of c.args.before) place c.requires.reached (pou_meant pou) (meant_there tables c.requires.ready place pou c.requires.there) other
