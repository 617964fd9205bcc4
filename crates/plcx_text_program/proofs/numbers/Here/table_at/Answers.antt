use Rattle.plcx_text_tables.specs.Tabled.{shown_table}
use Rattle.plcx_text_program.proofs.Telling.{match_table}
use Rattle.plcx_text_program.proofs.numbers.Here.table_at.Goals as goal

pub returns : goal.returns
returns c =
    let here = c.args.self.now in
    match_table here.tables.now here.told.0 (λ t. shown_table t.now) c.args.place c.table.result c.table.ensures
