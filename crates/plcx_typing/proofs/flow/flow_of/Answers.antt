use Rattle.std.proofs.Common.{◌≡◌, inl, inr, subst, arith}
use Rattle.std.proofs.lemmas.Bool.{cases_lt}
use Rattle.plcx_rules.specs.Types.{pin_at, gives_at}
use Rattle.plcx_typing.specs.Sheets.{sheet}
use Rattle.plcx_typing.specs.Flows.{IsGroupPin, FeedsAt}
use Rattle.plcx_typing.proofs.Flowing.{feeds_on}
use Rattle.plcx_typing.proofs.flow.flow_of.Goals as goal

pub loop-pin-preserved : goal.loop-pin-preserved
loop-pin-preserved c =
    let s = sheet c.args.forms.now c.args.pins.now c.args.links.now in
    let old = c.loop-pin.flow in
    let new = c.feed_all.new.self in
    let now = c.in_ok-feed_all.ensures in
    record {
      flow = now.flow;
      fed = λ k h. elim (cases_lt k c.loop-pin.pin) [
        | inl low ↦ λ group o there. feeds_on old.seeds.items new.seeds.items old.next.items new.next.items (pin_at s k).element o (gives_at s o) now.grows (c.loop-pin.invariant.fed k low group o there)
        | inr high ↦ let same : c.loop-pin.pin ≡ k = omega arith in subst (λ i. IsGroupPin s i → FeedsAt s new.seeds.items new.next.items i) same now.fed
      ];
    }
