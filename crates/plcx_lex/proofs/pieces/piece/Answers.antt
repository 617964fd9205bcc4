use Rattle.std.proofs.Common.{inl, inr, sym, ◌∙◌}
use Rattle.plcx_lex.proofs.pieces.piece.Goals as goal

pub returns-in-None : goal.returns-in-None
returns-in-None c = record {
  no_blank = λ n h. (let bad = sym (sym c.is_blank.ensures ∙ c.if-is_blank.false) ∙ h.2 in absurd (cc));
  no_comment = λ n h. elim h [ inl b ↦ c.in_default.ensures n b | inr l ↦ c.in_default-line_len.ensures n l ];
  no_token = c.in-None.ensures;
}

pub returns-in-Some-token : goal.returns-in-Some-token
returns-in-Some-token c = record {
  piece = (c.in-Some-token.ensures.token, λ n h. elim h [ inl b ↦ c.in_default.ensures n b | inr l ↦ c.in_default-line_len.ensures n l ]);
  terminal = c.in-Some-token.ensures.terminal;
}
