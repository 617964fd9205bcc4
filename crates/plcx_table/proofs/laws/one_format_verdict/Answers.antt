use Rattle.plcx_model.proofs.OneVerdict.{one-verdict}
use Rattle.plcx_table.specs.Format.{Breaks, looked_at, format_rules, place_of}
use Rattle.plcx_table.proofs.laws.one_format_verdict.Goals as goal

pub returns : goal.returns
returns c = λ root v w. one-verdict (Breaks root) place_of (looked_at root) format_rules v w
