use Rattle.std.proofs.Common.{◌≡◌, List, length, sym, ap, rules}
use Rattle.plcx_view.specs.Blocks.{lent_at}
use Rattle.plcx_view.specs.Pins.{Feed}
use Rattle.plcx_draw.proofs.SheetLaws.{zip_nothing}
use Rattle.plcx_draw.proofs.sheet.Sheet.lent_at.Goals as goal

pub returns-then-is_empty-2 : goal.returns-then-is_empty-2
returns-then-is_empty-2 c =
    let own = c.args.self.now in
    let pin = c.args.pin in
    let none : length pin.marks.now ≡ 0 = search rules in
    sym (ap (λ (feeds : List Feed). lent_at own.pous own.pou feeds) (zip_nothing pin.sources.now pin.marks.now none))
