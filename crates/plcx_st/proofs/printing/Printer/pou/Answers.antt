use Rattle.std.proofs.Common.{[], ◌∷◌, ◌++◌}
use Rattle.std.specs.List.{flat_map}
use Rattle.plcx_meaning.specs.Tree.{statements}
use Rattle.plcx_st.specs.Meant.{pou_meant}
use Rattle.plcx_st.specs.Print.{line, word, name, pou_word, pou_end, block_lines, statements_lines}
use Rattle.plcx_st.proofs.Puts.{on_ok, writes_after, writes_then}
use Rattle.plcx_st.proofs.printing.Printer.pou.Goals as goal

pub returns : goal.returns
returns c =
    let p = pou_meant c.args.pou.now in
    let end = line 0 (word (pou_end p.kind) ∷ []) in
    let body = statements_lines 2 (statements p.body) in
    on_ok c.heading.result (λ h. writes_after c.args.self.now c.pou_heading.new.self c.heading.new.self
    (line 0 (word (pou_word p.kind) ∷ name p.name ∷ [])) (flat_map block_lines p.blocks ++ (body ++ end ∷ [])) c.in_ok-pou_heading.ensures
    (writes_then c.pou_heading.new.self c.blocks-2.new.self c.heading.new.self (flat_map block_lines p.blocks) (body ++ end ∷ []) (rw c.as_slice.ensures at c.in_ok-blocks.ensures)
    (writes_then c.blocks-2.new.self c.statements.new.self c.heading.new.self body (end ∷ []) (rw c.as_slice-2.ensures at c.in_ok-statements.ensures) (rw c.pou_end.ensures at h)))) c.heading.ensures
