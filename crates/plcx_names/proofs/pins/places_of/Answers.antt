use Rattle.std.proofs.Common.{◌∙◌, ap, refl, List, ℕ, Option, option_map}
use Rattle.plcx_names.specs.declared.pins.OwnPin.{OwnPin}
use Rattle.plcx_names.specs.Seen.{is_pin, shown_pin}
use Rattle.plcx_names.specs.Told.{place_at, found_or, place_if, is_key}
use Rattle.plcx_names.proofs.Firsts.{more_at, done}
use Rattle.plcx_names.proofs.pins.places_of.Goals as goal

pub loop-place-preserved : goal.loop-place-preserved
loop-place-preserved c = λ q.
    let named : Option OwnPin → Option (List ℕ) = option_map (λ (p : OwnPin). p.name.now) in
    let read = λ (n : Option (List ℕ)). found_or (place_at q c.loop-place.table.entries) (place_if (is_key q n) c.loop-place.place) in
    more_at (λ (p : OwnPin). is_pin q (shown_pin p)) (λ o. is_key q (named o)) c.loop-place.place c.args.pins.now (place_at q c.loop-place.table.entries) _ _ c.loop-place-test.true (λ p. refl) (c.in_ok-table.ensures q ∙ ap read c.name_at.ensures) (c.loop-place.invariant q)

pub returns : goal.returns
returns c = λ q. done (λ (p : OwnPin). is_pin q (shown_pin p)) c.loop-place.place c.args.pins.now (place_at q c.loop-place.table.entries) _ c.loop-place-test.false (c.loop-place.invariant q)
