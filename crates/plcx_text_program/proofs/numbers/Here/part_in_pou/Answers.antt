use Rattle.std.proofs.Common.{map}
use Rattle.plcx_st.specs.Meant.{pou_meant}
use Rattle.plcx_text_tables.specs.Tabled.{shown_table}
use Rattle.plcx_text_program.proofs.Leading.{pou_part}
use Rattle.plcx_text_program.proofs.numbers.Here.part_in_pou.Goals as goal

pub returns-in_ok-part_in_table-in-Some : goal.returns-in_ok-part_in_table-in-Some
returns-in_ok-part_in_table-in-Some c =
    let here = c.args.self.now in
    let at = rw c.in-Some.is at c.table_at.ensures in
    let made = c.in_ok-part_in_table-in-Some in
    pou_part (map pou_meant here.tables.now) here.told.0 c.args.place (shown_table c.in-Some.table.now) c.args.name.now _ at made.ensures.leaf made.ensures.ty made.ensures.formal
