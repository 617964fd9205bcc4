use Rattle.std.proofs.Common.{option_map}
use Rattle.plcx_conditions.specs.Places.{placed_word}
use Rattle.plcx_known.specs.Owned.{shown_seen}
use Rattle.plcx_unit.specs.Pieces.{setting_of}
use Rattle.plcx_unit.proofs.Values.{member_judged}
use Rattle.plcx_unit.proofs.here.Here.member.Goals as goal

pub returns : goal.returns
returns c =
    let s = setting_of c.args.self.now in
    let found = c.in_ok-part_of_seen.ensures in
    member_judged s (placed_word c.args.instance.now) (placed_word c.args.output.now) (option_map (shown_seen s.unit) c.in_ok-seen.seen) _ c.in_ok-seen.ensures found.broken found.ty found.at
