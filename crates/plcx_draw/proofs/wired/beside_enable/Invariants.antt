use Rattle.std.proofs.Common.{◌≡◌, ◌++◌, not, filter, map, drop}
use Rattle.plcx_rules.specs.Callees.{is_enable}
use Rattle.plcx_view.specs.Blocks.{Wired}
use Rattle.plcx_draw.specs.Wired.{shown_wired}
use Rattle.plcx_draw.proofs.wired.beside_enable.Given as goal

abbrev pub invariant-loop-wired : goal.invariant-loop-wired
invariant-loop-wired l =
    let test = λ (w : Wired). not (is_enable w.0) in
    map shown_wired l.all.items ++ filter test (map shown_wired (drop l.wired-index l.inputs)) ≡ filter test (map shown_wired l.inputs)
