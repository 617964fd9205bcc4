use Rattle.std.proofs.Common.{option_map, ◌∙◌}
use Rattle.plcx_conditions.specs.Places.{placed_word, placed_expression}
use Rattle.plcx_known.specs.Owned.{shown_seen}
use Rattle.plcx_unit.specs.Pieces.{setting_of}
use Rattle.plcx_unit.proofs.Acting.{assign_is}
use Rattle.plcx_unit.proofs.here.Here.assign.Goals as goal

pub returns : goal.returns
returns c =
    let s = setting_of c.args.self.now in
    let e = placed_expression c.args.value.now in
    c.sooner.ensures ∙ assign_is s (placed_word c.args.target.now) e c.in_ok-one.one (option_map (shown_seen s.unit) c.in_ok-seen.seen) c.assignment.result c.in_ok-one.ensures c.in_ok-seen.ensures (c.assignment.ensures s e c.in_ok-one.ensures)
