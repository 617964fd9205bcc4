use Rattle.std.proofs.Common.{◌∙◌, List, ap}
use Rattle.std.specs.List.{find}
use Rattle.plcx_rules.specs.Callees.{BlockPin}
use Rattle.plcx_names.specs.Seen.{shown_pin, is_pin}
use Rattle.plcx_names.proofs.Finding.{shown_at_place}
use Rattle.plcx_names.proofs.pins.Pins.find.Goals as goal

pub returns : goal.returns
returns c =
    let found = shown_at_place shown_pin (is_pin c.args.key.now) c.self.inside.pins.items _ (c.copied-place.ensures ∙ c.get.ensures.value ∙ c.self.invariant c.args.key.now) in
    c.at.ensures ∙ (rw c.deref.ensures.value found ∙ ap (λ (ps : List BlockPin). find (is_pin c.args.key.now) ps) c.self.view_is)
