use Rattle.plcx_text_program.proofs.BareBodies.{FirstAreBare}
use Rattle.plcx_text_program.proofs.bodies.bodies_of.Given as goal

abbrev pub invariant-loop-place : goal.invariant-loop-place
invariant-loop-place l = FirstAreBare l.tables l.entries l.place l.bodies.items
