use Rattle.std.proofs.Common.{[], ◌∷◌, map}
use Rattle.std.specs.Prelude.{codes}
use Rattle.plcx_st.specs.Meant.{block_meant}
use Rattle.plcx_st.specs.Print.{line, word, class_word, mark_shapes, declaration_line}
use Rattle.plcx_st.proofs.Puts.{on_ok, writes_around}
use Rattle.plcx_st.proofs.printing.Printer.block.Goals as goal

pub returns : goal.returns
returns c =
    let b = block_meant c.args.block.now in
    on_ok c.heading.result (λ h. writes_around c.args.self.now c.block_heading.new.self c.declarations.new.self c.heading.new.self
    (line 0 (word (class_word b.class) ∷ mark_shapes b.mark)) (line 0 (word (codes "END_VAR") ∷ [])) (map declaration_line b.declarations)
    c.in_ok-block_heading.ensures (rw c.as_slice.ensures at c.in_ok-declarations.ensures) h) c.heading.ensures
