use Rattle.std.proofs.Common.{◌≡◌, ◌++◌, map, drop}
use Rattle.plcx_view.specs.Diagrams.{elements_from}
use Rattle.plcx_draw.specs.Feedback.{shown_bare}
use Rattle.plcx_draw.specs.Pins.{shown_pins}
use Rattle.plcx_draw.proofs.sheet.Sheet.elements_of.Given as goal

abbrev pub invariant-loop-one : goal.invariant-loop-one
invariant-loop-one l =
    map shown_bare l.all.items ++ elements_from l.self.pous l.self.pou (shown_pins l.left) (drop l.one-index l.self.pou.body.elements)
    ≡ elements_from l.self.pous l.self.pou (shown_pins l.pins) l.self.pou.body.elements
