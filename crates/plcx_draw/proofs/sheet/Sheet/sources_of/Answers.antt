use Rattle.std.proofs.Common.{◌≤◌, ◌++◌, ◌∙◌, List, map, min, length, sym, ap, arith}
use Rattle.std.proofs.lemmas.List.{append-nil}
use Rattle.plcx_drawn.specs.Shown.{shown_source}
use Rattle.plcx_view.specs.Links.{source_of}
use Rattle.plcx_view.specs.Pins.{Feed}
use Rattle.plcx_draw.proofs.SheetLaws.{zip_over}
use Rattle.plcx_draw.proofs.sheet.Sheet.sources_of.Goals as goal

pub returns : goal.returns
returns c =
    let own = c.args.self.now in
    let xs = c.args.sources.now in
    let ys = c.args.marks.now in
    let found = map shown_source c.loop-i.all.items in
    let over : min (length xs) (length ys) ≤ c.loop-i.i = omega arith in
    sym (append-nil found)
    ∙ sym (ap (λ (feeds : List Feed). found ++ map (source_of own.pous own.pou) feeds) (zip_over c.loop-i.i xs ys over))
    ∙ c.loop-i.invariant
