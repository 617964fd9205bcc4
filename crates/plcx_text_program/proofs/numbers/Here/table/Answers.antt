use Rattle.plcx_text_tables.specs.Tabled.{shown_table}
use Rattle.plcx_text_program.proofs.Telling.{own_table_is}
use Rattle.plcx_text_program.proofs.numbers.Here.table.Goals as goal

pub returns : goal.returns
returns c =
    let here = c.args.self.now in
    own_table_is here.tables.now here.told.0 here.place (shown_table c.table_there.result.now) c.table_there.ensures
