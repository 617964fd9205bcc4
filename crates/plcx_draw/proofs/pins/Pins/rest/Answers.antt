use Rattle.std.proofs.Common.{◌≡◌, ◌∙◌, List, length, drop, sym, ap, rules}
use Rattle.plcx_view.specs.Pins.{Pin}
use Rattle.plcx_draw.proofs.PinLaws.{none_listed}
use Rattle.plcx_draw.proofs.pins.Pins.rest.Goals as goal

pub returns-then-is_empty-2 : goal.returns-then-is_empty-2
returns-then-is_empty-2 c =
    let pins = c.args.self in
    let none : length pins.sources.now ≡ 0 = search rules in
    let over = none_listed pins.types.now pins.sources.now pins.marks.now none in
    over ∙ sym (ap (λ (ps : List Pin). drop 1 ps) over)
