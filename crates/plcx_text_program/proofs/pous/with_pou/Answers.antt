use Rattle.std.proofs.Common.{map}
use Rattle.plcx_st.specs.Meant.{pou_meant}
use Rattle.plcx_text_order.specs.Made.{owner}
use Rattle.plcx_text_program.proofs.Adding.{adds_pou}
use Rattle.plcx_text_program.proofs.pous.with_pou.Goals as goal

pub returns : goal.returns
returns c =
    let pou = c.args.pou.now in
    let o = owner (map pou_meant c.args.tables.now) c.args.place (pou_meant pou) in
    adds_pou o c.args.before (record { prepared = c.ended-prepared.result.0; entries = c.with_entry-entries.result }) c.begun-first.result c.in_ok-behind.behind c.in_ok-values.values.items
    (record { wires = c.ended-prepared.result.1; section = c.in_ok-behind.section }) c.begun-first.ensures (c.in_ok-values.ensures pou c.requires.there) c.in_ok-behind.ensures c.ended-prepared.ensures c.with_entry-entries.ensures
