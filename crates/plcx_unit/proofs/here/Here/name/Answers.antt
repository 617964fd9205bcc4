use Rattle.std.proofs.Common.{option_map, refl}
use Rattle.plcx_conditions.specs.Places.{placed_word}
use Rattle.plcx_known.specs.Owned.{shown_seen}
use Rattle.plcx_unit.specs.Pieces.{setting_of}
use Rattle.plcx_unit.proofs.Values.{name_judged}
use Rattle.plcx_unit.proofs.here.Here.name.Goals as goal

pub returns : goal.returns
returns c =
    let s = setting_of c.args.self.now in
    name_judged s (placed_word c.args.name.now) (option_map (shown_seen s.unit) c.in_ok-seen.seen) _ c.in_ok-seen.ensures (c.name_broken.ensures s.unit) (c.value_type.ensures s.unit) refl
