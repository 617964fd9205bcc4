-- What a side stands for, untruncated.
use Rattle.std.proofs.Common.{◌≡◌, List}
use Rattle.std.proofs.Math.Logic.{∥∥₁_elim}
use Rattle.plcx_meaning.specs.Execute.{TextState, text_machine}
use Rattle.plcx_meaning.specs.Layout.{Restart}
use Rattle.plcx_meaning.specs.Run.{Side as Meant}
use Rattle.plcx_state.specs.Layouts.{IsLaid}
use Rattle.plcx_state.specs.Retains.{Pairwise}
use Rattle.plcx_state.specs.Stores.{IsStored, is_warm, restarted}
use Rattle.plcx_scan.specs.Sides.{HasTypeOf}
use Rattle.plcx_scan.proofs.Stored.{store_typed}
use Rattle.plcx_text_stored.specs.Between.{AgreesWith}
use Rattle.plcx_text_stored.specs.LaidFor.{IsLaidFor}
use Rattle.plcx_text_stored.specs.Laws.{OneAgreement, StoreRestarts}
use Rattle.plcx_run.specs.declared.side.TextSide.{TextSide}
use Rattle.plcx_run.specs.Sides.{unit, program, StandsFor}

pub laid_for : OneAgreement → (s : TextSide) → IsLaidFor (unit s) (program s) s.layout
laid_for one s = ∥∥₁_elim s.stands.laid (one.0 (unit s) (program s) s.layout) (λ l. l)

-- each value has the type of its leaf
pub held_typed : (s : TextSide) → IsLaid s.layout → IsStored s.state.store → Pairwise HasTypeOf s.layout.leaves s.state.store.values
held_typed s laid stored = store_typed s.layout s.state.store laid stored s.stands.store

-- a restart leads from what it stands for to what it stands for then
pub restarts : OneAgreement → StoreRestarts → (s : TextSide) → IsStored s.state.store → (r : Restart) (g : Meant TextState) → StandsFor s g
    → AgreesWith (unit s) (program s) ((text_machine (unit s) (program s)).restart r g.state) (restarted (is_warm r) s.state.store)
restarts one law s stored r g h = law (unit s) (program s) s.layout (laid_for one s) r g.state s.state.store stored s.stands.store h.agrees
