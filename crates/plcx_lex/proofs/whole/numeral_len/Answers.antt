use Rattle.std.proofs.Common.{Bool, arith, sym, ◌∙◌, subst}
use Rattle.plcx_types.specs.Name.{in_lower_case}
use Rattle.plcx_lex.proofs.NumeralScan.{Scanned, scan_ends, folded_length, reads_over, reads_digit, reads_gap, reads_other, reads_unseen}
use Rattle.plcx_lex.proofs.whole.numeral_len.Goals.{else-seen-via-then-seen+else-text-i-eq95, else-seen-via-else-seen, in-Some+in-Some-with_digit, in_default+then-seen+then-text-i-eq95}
use Rattle.plcx_lex.proofs.whole.numeral_len.Goals as goal

pub returns-in_default-with_digit : goal.returns-in_default-with_digit
returns-in_default-with_digit c =
    reads_over c.args.base c.args.text.now c.loop-i.i c.loop-i.n c.in-Some.digit c.loop-i.seen c.loop-i.best c.requires c.loop-i-test.true c.in-Some.ensures.0 c.in-Some.ensures.1 (sym c.with_digit.ensures.value ∙ c.in_default-with_digit.is) c.loop-i.invariant

pub returns-else-seen : goal.returns-else-seen
returns-else-seen c = elim c.else-seen.branch [
  | else-seen-via-then-seen+else-text-i-eq95 w ↦
      reads_other c.args.base c.args.text.now c.loop-i.i c.loop-i.n c.loop-i.best c.requires c.loop-i-test.true c.in_default.ensures w.if-text-i-eq95.false
      (subst (λ (s : Bool). Scanned c.args.base (in_lower_case c.args.text.now) c.loop-i.i c.loop-i.n s c.loop-i.best) w.if-seen.true c.loop-i.invariant)
  | else-seen-via-else-seen w ↦
      reads_unseen c.args.base c.args.text.now c.loop-i.i c.loop-i.n c.loop-i.best c.requires c.loop-i-test.true c.in_default.ensures
      (subst (λ (s : Bool). Scanned c.args.base (in_lower_case c.args.text.now) c.loop-i.i c.loop-i.n s c.loop-i.best) w.if-seen.false c.loop-i.invariant)
]

pub loop-i-preserved : goal.loop-i-preserved
loop-i-preserved c = elim c.match-digit.branch [
  | in-Some+in-Some-with_digit w ↦
      rw (w.n-is, w.seen-is, w.best-is)
      (reads_digit c.args.base c.args.text.now c.loop-i.i c.loop-i.n w.in-Some.digit w.in-Some-with_digit.more c.loop-i.seen c.loop-i.best c.loop-i-test.true w.in-Some.ensures.0 w.in-Some.ensures.1 (sym w.with_digit.ensures.value ∙ w.in-Some-with_digit.is) c.loop-i.invariant)
  | in_default+then-seen+then-text-i-eq95 w ↦
      rw (w.n-is, w.seen-is, w.best-is)
      (reads_gap c.args.base c.args.text.now c.loop-i.i c.loop-i.n c.loop-i.best c.requires c.loop-i-test.true w.in_default.ensures w.if-text-i-eq95.true
      (subst (λ (s : Bool). Scanned c.args.base (in_lower_case c.args.text.now) c.loop-i.i c.loop-i.n s c.loop-i.best) w.if-seen.true c.loop-i.invariant))
]

pub returns : goal.returns
returns c = scan_ends c.args.base (in_lower_case c.args.text.now) c.loop-i.i c.loop-i.n c.loop-i.seen c.loop-i.best (omega (arith, folded_length c.args.text.now)) c.loop-i.invariant
