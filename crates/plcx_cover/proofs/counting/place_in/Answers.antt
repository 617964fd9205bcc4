use Rattle.std.proofs.Common.{◌∙◌, ap}
use Rattle.std.specs.List.{position}
use Rattle.plcx_cover.specs.Keys.{same_key}
use Rattle.plcx_cover.proofs.Found.{found}
use Rattle.plcx_cover.proofs.counting.place_in.Goals as goal

pub returns-clause-place : goal.returns-clause-place
returns-clause-place c = found c.args.key c.args.rows.now c.get_index_of.result (c.get_index_of.ensures.index ∙ ap (position (same_key c.args.key)) c.requires)
