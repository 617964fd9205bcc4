use Rattle.std.proofs.Common.{Some, map, ◌∙◌}
use Rattle.plcx_st.specs.Meant.{pou_meant}
use Rattle.plcx_text_tables.specs.Tabled.{shown_number, shown_table}
use Rattle.plcx_text_program.specs.Told.{pou_at}
use Rattle.plcx_text_program.proofs.Calling.{callee_is}
use Rattle.plcx_text_program.proofs.numbers.HereNumbers.callee.Goals as goal

pub returns-in_ok-called-in-Some : goal.returns-in_ok-called-in-Some
returns-in_ok-called-in-Some c =
    let here = c.args.self.now in
    let unit = map pou_meant here.tables.now in
    let found = rw c.in-Some.is at c.in_ok-find.ensures in
    c.in_ok-called-in-Some.ensures
    ∙ callee_is unit here.told.0 here.place (pou_at unit here.place) (shown_table c.table.result.now) c.table.ensures c.args.instance.now (Some (shown_number c.in-Some.number)) found
