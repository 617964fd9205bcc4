use Rattle.std.proofs.Common.{map}
use Rattle.plcx_st.specs.Meant.{pou_meant}
use Rattle.plcx_text_program.specs.Told.{numbers_at}
use Rattle.plcx_text_program.proofs.Ready.{statements_ready}
use Rattle.plcx_text_program.proofs.pous.with_section.Goals as goal

pub with_body-requires : goal.with_body-requires
with_body-requires c =
    let pou = c.args.pou.now in
    let here = c.in_ok-here.here in
    statements_ready c.args.tables.now c.requires.ready c.args.place pou c.requires.there (numbers_at (map pou_meant here.tables.now) here.place) c.as_slice.result.now (c.in_ok-here.ensures pou c.requires.there) c.as_slice.ensures
