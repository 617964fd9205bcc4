use Rattle.std.proofs.Common.{sym, subst, []}
use Rattle.std.proofs.Math.Logic.{∥∥₁_elim}
use base.Stored.{Coded-set}
use Rattle.plcx_meaning.specs.Evaluate.{scan_does}
use Rattle.plcx_meaning.specs.Run.{put_inputs}
use Rattle.plcx_numbered.specs.Agreeing.{Alike, Nothing}
use Rattle.plcx_numbered.specs.Numbers.{shape_of}
use Rattle.plcx_stored.proofs.Scans.{scan_begins, scan_is, scan_prop}
use Rattle.plcx_stored.proofs.laws.scans_are_stored.Goals as goal

pub returns : goal.returns
returns g c = λ project program fits is k p at kind time inputs side awake old new a result before behind same.
    let tell = g.W.Watch.told in
    let one = scan_prop project p tell before old.left time inputs new behind (Coded-set g.row.W.coded) side result in
    ∥∥₁_elim fits one (λ fit. ∥∥₁_elim is one (λ of.
    let d = record (side.state) { store = put_inputs inputs side.state.store } in
    let alike = c.programs_are_alike.ensures project program fit of k p at kind before time (record d { left = old.left; heard = [] }) _ (scan_begins project p tell before d old a) in
    scan_is project p tell before old.left time inputs new behind side awake result
    (subst (Alike (shape_of project p) tell before Nothing (scan_does project p old.left time inputs side.state)) (sym same) alike)))
