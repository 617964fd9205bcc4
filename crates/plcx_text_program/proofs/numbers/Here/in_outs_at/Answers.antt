use Rattle.std.proofs.Common.{map}
use Rattle.plcx_st.specs.Meant.{pou_meant}
use Rattle.plcx_text_tables.specs.Tabled.{shown_table}
use Rattle.plcx_text_program.proofs.Calling.{in_outs_there}
use Rattle.plcx_text_program.proofs.numbers.Here.in_outs_at.Goals as goal

pub returns : goal.returns
returns c =
    in_outs_there (map pou_meant c.args.self.now.tables.now) c.args.place (λ t. shown_table t.now) (λ s. s.now) c.table_at.result c.in_outs_of.result.now c.in_outs_of.ensures c.table_at.ensures
