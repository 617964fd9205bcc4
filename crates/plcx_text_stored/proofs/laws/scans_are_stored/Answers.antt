use Rattle.std.proofs.Common.{sym, subst}
use Rattle.std.proofs.Math.Logic.{∥∥₁_elim}
use Rattle.plcx_meaning.specs.Execute.{text_machine}
use Rattle.plcx_meaning.specs.Run.{put_inputs}
use Rattle.plcx_text_numbered.specs.Agreeing.{Alike, Nothing}
use Rattle.plcx_text_numbered.specs.Numbers.{plan_of}
use Rattle.plcx_text_stored.proofs.Scans.{scan_begins, scan_is, scan_prop}
use Rattle.plcx_text_stored.proofs.laws.scans_are_stored.Goals as goal

pub returns : goal.returns
returns c = λ unit program text ready is k p at kind time inputs side awake old new a result same.
    let one = scan_prop unit p old.left time inputs new side result in
    ∥∥₁_elim is one (λ of.
    let g = record (side.state) { store = put_inputs inputs side.state.store } in
    let alike = c.texts_are_alike.ensures unit program text ready of k p at kind time (record g { left = old.left }) _ (scan_begins unit p g old a) in
    scan_is unit p old.left time inputs new side awake result
    (subst (Alike (plan_of unit p).plan.paths Nothing ((text_machine unit p).scan old.left time inputs side.state)) (sym same) alike))
