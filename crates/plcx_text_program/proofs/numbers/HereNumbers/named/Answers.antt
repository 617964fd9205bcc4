use Rattle.std.proofs.Common.{map, option_map, ◌∙◌}
use Rattle.plcx_st.specs.Meant.{pou_meant}
use Rattle.plcx_text_tables.specs.Tabled.{shown_number, shown_table}
use Rattle.plcx_text_program.specs.Told.{pou_at}
use Rattle.plcx_text_program.proofs.Naming.{type_is}
use Rattle.plcx_text_program.proofs.numbers.HereNumbers.named.Goals as goal

pub returns-clause-ty : goal.returns-clause-ty
returns-clause-ty c =
    let here = c.args.self.now in
    let unit = map pou_meant here.tables.now in
    let number = c.in_ok-number.number in
    c.named.ensures.ty ∙ type_is unit here.told.0 (pou_at unit here.place) (shown_table c.table.result.now) c.table.ensures c.args.name.now (option_map shown_number number) c.in_ok-number.ensures
