use Rattle.std.proofs.Common.{◌≡◌, map, drop}
use Rattle.std.specs.List.{find}
use Rattle.plcx_rules.specs.Texts.{same_name}
use Rattle.plcx_view.specs.Blocks.{Wired}
use Rattle.plcx_draw.specs.Wired.{shown_wired}
use Rattle.plcx_draw.proofs.wired.input_named.Given as goal

abbrev pub invariant-loop-wired : goal.invariant-loop-wired
invariant-loop-wired l =
    let test = λ (w : Wired). same_name l.name w.0.formal in
    find test (map shown_wired (drop l.wired-index l.inputs)) ≡ find test (map shown_wired l.inputs)
