use Rattle.std.proofs.Common.{◌≡◌, List, length, slice_get, sym, ap, rules}
use Rattle.plcx_view.specs.Pins.{Pin}
use Rattle.plcx_draw.proofs.PinLaws.{none_listed}
use Rattle.plcx_draw.proofs.pins.Pins.first.Goals as goal

pub returns-then-is_empty-2 : goal.returns-then-is_empty-2
returns-then-is_empty-2 c =
    let pins = c.args.self in
    let none : length pins.sources.now ≡ 0 = search rules in
    sym (ap (λ (ps : List Pin). slice_get ps 0) (none_listed pins.types.now pins.sources.now pins.marks.now none))
