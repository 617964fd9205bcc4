use Rattle.std.proofs.Common.{◌≡◌, ℕ, map}
use Rattle.std.specs.Option.{option_map}
use Rattle.std.specs.List.{filter_map, range_with_len}
use Rattle.plcx_drawn.specs.Shown.{shown_link}
use Rattle.plcx_view.specs.Blocks.{wired_link, input_at}
use Rattle.plcx_draw.specs.Wired.{shown_wired}
use Rattle.plcx_draw.proofs.sheet.Sheet.function_links.Given as goal

abbrev pub invariant-loop-place : goal.invariant-loop-place
invariant-loop-place l =
    map shown_link l.links.items ≡ filter_map (λ (i : ℕ). option_map (wired_link l.self.pous l.self.pou) (input_at l.func (map shown_wired l.inputs) i)) (range_with_len 0 l.place)
