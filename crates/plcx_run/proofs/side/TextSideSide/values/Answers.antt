use Rattle.std.proofs.Common.{List, sym, subst}
use Rattle.plcx_types.specs.Value.{Value}
use Rattle.plcx_scan.specs.Sides.{HasTypeOf}
use Rattle.plcx_state.specs.Retains.{Pairwise, numbers, Agrees}
use Rattle.plcx_run.specs.Sides.{unit, program, machine_of}
use Rattle.plcx_run.proofs.Sided.{laid_for, held_typed}
use Rattle.plcx_run.proofs.side.TextSideSide.values.Goals as goal

pub returns-clause-typed : goal.returns-clause-typed
returns-clause-typed c =
    let s = c.args.self.now in
    subst (Pairwise HasTypeOf s.layout.leaves) (sym c.values.ensures.values) (held_typed s c.keeps_types.ensures.laid c.keeps_types.ensures.stored)

pub returns-clause-meaning : goal.returns-clause-meaning
returns-clause-meaning c = λ g h.
    let s = c.args.self.now in
    subst (λ (vs : List Value). Agrees s.layout.leaves ((machine_of s).value g.state) (numbers vs)) (sym c.values.ensures.values)
    (c.store_shows.ensures (unit s) (program s) s.layout (laid_for c.one_agreement.ensures s) g.state s.state.store c.keeps_types.ensures.stored s.stands.store h.agrees)
