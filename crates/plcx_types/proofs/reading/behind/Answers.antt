use Rattle.std.proofs.Common.{arith}
use Rattle.plcx_types.proofs.BehindWord.{lower_some, lower_none, lower_short}
use Rattle.plcx_types.proofs.reading.behind.Goals as goal

pub returns-then-text-word : goal.returns-then-text-word
returns-then-text-word c = lower_short c.args.word.now c.args.text.now (omega arith)

pub returns-then-eq_ignore_ascii_case : goal.returns-then-eq_ignore_ascii_case
returns-then-eq_ignore_ascii_case c = lower_some c.args.word.now c.args.text.now _ _ c.split_at.ensures.front c.split_at.ensures.back (c.eq_ignore_ascii_case.ensures.test.0 c.if-eq_ignore_ascii_case.true)

pub returns-else-eq_ignore_ascii_case : goal.returns-else-eq_ignore_ascii_case
returns-else-eq_ignore_ascii_case c = lower_none c.args.word.now c.args.text.now _ c.split_at.ensures.front (λ same. let no = c.eq_ignore_ascii_case.ensures.test.1 same in cc)
