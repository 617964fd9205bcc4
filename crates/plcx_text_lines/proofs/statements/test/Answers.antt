use Rattle.plcx_st.specs.Meant.{expr_meant}
use Rattle.plcx_text_pieces.specs.Pieces.{Piece, Start, value_piece}
use Rattle.plcx_text_lines.proofs.Adding.{adds_boxed}
use Rattle.plcx_text_lines.proofs.statements.test.Goals as goal

pub returns-clause-added : goal.returns-clause-added
returns-clause-added g c =
    let n = g.N.Numbers.numbers c.args.numbers.now in
    let e = expr_meant c.args.cond.now in
    let p : Start → Piece = λ s. value_piece n.names s e in
    let closes = rw c.pou.ensures at c.in_ok-behind.ensures in
    λ has. adds_boxed n.pou p c.args.before c.opened-inner.result.0 c.in_ok-tested.tested c.in_ok-behind.behind c.opened-inner.result.1.items c.in_ok-behind.number c.opened-inner.ensures (c.in_ok-tested.ensures has).added closes
