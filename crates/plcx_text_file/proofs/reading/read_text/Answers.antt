use Rattle.std.proofs.Common.{◌<◌, ◌≤◌, length, sym, subst, arith}
use Rattle.std.proofs.lemmas.Result.{IfErr-weaker}
use Rattle.plcx_types.specs.Limits.{max_text_bytes}
use Rattle.plcx_text_file.specs.Texts.{TextBreaks, too_long}
use Rattle.plcx_text_file.proofs.Refused.{short_refused}
use Rattle.plcx_text_file.proofs.reading.read_text.Goals as goal

pub returns-then-bytes-gt-MAX_TEXT_BYTES-clause-refused : goal.returns-then-bytes-gt-MAX_TEXT_BYTES-clause-refused
returns-then-bytes-gt-MAX_TEXT_BYTES-clause-refused c =
    let long = c.if-bytes-gt-MAX_TEXT_BYTES.true in
    let more : max_text_bytes < length c.args.bytes.now = omega arith in
    subst (TextBreaks c.args.bytes.now) (sym c.broken.ensures) (too_long more)

pub returns-clause-refused : goal.returns-clause-refused
returns-clause-refused c =
    let not_long = c.if-bytes-gt-MAX_TEXT_BYTES.false in
    let short : length c.args.bytes.now ≤ max_text_bytes = omega arith in
    IfErr-weaker c.unit_of.result _ _ (short_refused c.args.bytes.now short) c.unit_of.ensures.refused
