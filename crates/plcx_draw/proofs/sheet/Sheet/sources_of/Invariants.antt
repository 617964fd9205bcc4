use Rattle.std.proofs.Common.{◌≡◌, ◌++◌, map, drop}
use Rattle.std.specs.List.{zip}
use Rattle.plcx_drawn.specs.Shown.{shown_source}
use Rattle.plcx_view.specs.Links.{source_of}
use Rattle.plcx_draw.proofs.sheet.Sheet.sources_of.Given as goal

abbrev pub invariant-loop-i : goal.invariant-loop-i
invariant-loop-i l =
    map shown_source l.all.items ++ map (source_of l.self.pous l.self.pou) (zip (drop l.i l.sources) (drop l.i l.marks))
    ≡ map (source_of l.self.pous l.self.pou) (zip l.sources l.marks)
