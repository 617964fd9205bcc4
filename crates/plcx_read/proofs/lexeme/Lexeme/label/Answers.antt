use Rattle.std.proofs.Common.{◌∙◌, sym, ap, add-one}
use Rattle.plcx_lex.specs.Token.{Token}
use Rattle.plcx_read.proofs.Tables.{label_digit, label_other}
use Rattle.plcx_read.proofs.lexeme.Lexeme.label.Goals as goal
use Rattle.plcx_read.proofs.lexeme.Lexeme.label.Goals.{then-is_ascii_digit, else-is_ascii_digit}

pub loop-byte-preserved : goal.loop-byte-preserved
loop-byte-preserved c = elim c.if-is_ascii_digit.branch [
  | then-is_ascii_digit w ↦
      let same = ap (λ (x : Token). x.text) c.self.view_is in
      let digit = label_digit c.loop-byte.n c.if-is_ascii_digit.n c.self.inside.text.now c.loop-byte.byte-index w.from.result c.loop-byte-test.true (sym c.is_ascii_digit.ensures.value ∙ w.if-is_ascii_digit.true) w.from.ensures (w.n-is ∙ w.min-n.ensures) in
      rw (add-one c.loop-byte.byte-index, ← same) ((digit.0 ∙ rw same c.loop-byte.invariant.0), digit.1)
  | else-is_ascii_digit w ↦
      let same = ap (λ (x : Token). x.text) c.self.view_is in
      let other = label_other c.loop-byte.n c.self.inside.text.now c.loop-byte.byte-index c.loop-byte-test.true (sym c.is_ascii_digit.ensures.value ∙ w.if-is_ascii_digit.false) in
      rw (w.n-is, add-one c.loop-byte.byte-index, ← same, other) (rw same c.loop-byte.invariant.0, c.loop-byte.invariant.1)
]
