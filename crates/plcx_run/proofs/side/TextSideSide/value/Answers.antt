use Rattle.std.proofs.Common.{◌≡◌, length, arith}
use Rattle.plcx_scan.specs.Sides.{HasTypeOf}
use Rattle.plcx_state.proofs.Pairing.{long}
use Rattle.plcx_run.proofs.Sided.{held_typed}
use Rattle.plcx_run.proofs.side.TextSideSide.value.Goals as goal

pub get-requires : goal.get-requires
get-requires c =
    let s = c.args.self.now in
    let same : length s.layout.leaves ≡ length s.state.store.values = long HasTypeOf s.layout.leaves s.state.store.values (held_typed s c.keeps_types.ensures.laid c.keeps_types.ensures.stored) in
    let low = c.requires in
    omega arith
