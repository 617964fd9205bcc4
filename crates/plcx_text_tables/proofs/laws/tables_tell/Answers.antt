use Rattle.plcx_text_tables.specs.Counts.{all_counts, all_heights}
use Rattle.plcx_text_tables.proofs.Telling.{table_is, level_is}
use Rattle.plcx_text_tables.proofs.laws.tables_tell.Goals as goal

pub returns : goal.returns
unfolding all_counts all_heights
returns c = λ pous ready k p there. (table_is pous ready.distinct p, level_is pous ready.distinct k p there)
