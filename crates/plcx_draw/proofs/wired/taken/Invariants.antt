use Rattle.std.proofs.Common.{◌≡◌, ◌++◌, map, drop}
use Rattle.plcx_view.specs.Blocks.{among, is_taken}
use Rattle.plcx_draw.specs.Wired.{shown_wired}
use Rattle.plcx_draw.proofs.wired.taken.Given as goal

abbrev pub invariant-loop-wired : goal.invariant-loop-wired
invariant-loop-wired l = map shown_wired l.all.items ++ among is_taken (map shown_wired (drop l.wired-index l.inputs)) ≡ among is_taken (map shown_wired l.inputs)
