use Rattle.std.proofs.Common.{◌≡◌, inl, inr, get_or, sym, ◌∙◌, ap, subst, arith}
use Rattle.std.specs.List.{Contains}
use Rattle.std.proofs.lemmas.Bool.{cases_lt}
use Rattle.std.proofs.lemmas.List.{get_or_default}
use Rattle.plcx_model.specs.declared.source.Source.{Source}
use Rattle.plcx_rules.specs.Types.{pin_at, gives_at}
use Rattle.plcx_typing.specs.Sheets.{sheet}
use Rattle.plcx_typing.specs.Flows.{Feeds}
use Rattle.plcx_typing.proofs.Flowing.{grows_on, feeds_on}
use Rattle.plcx_typing.proofs.flow.Flow.feed_all.Goals as goal

pub loop-source-preserved : goal.loop-source-preserved
loop-source-preserved c =
    let s = sheet c.args.forms.now c.args.pins.now c.args.links.now in
    let e = (pin_at s c.args.pin).element in
    let items = c.sources_at-source-items.result.now in
    let i = c.loop-source.source-index in
    let old = c.loop-source.self in
    let new = c.feed.new.self in
    let was = c.loop-source.invariant in
    let now = c.in_ok-feed.ensures in
    record {
      flow = now.flow;
      grows = grows_on c.args.self.now.seeds.items old.seeds.items new.seeds.items c.args.self.now.next.items old.next.items new.next.items was.grows now.grows;
      fed = λ k d h. elim (cases_lt k i) [
        | inl low ↦ feeds_on old.seeds.items new.seeds.items old.next.items new.next.items e (get_or items k d) (gives_at s (get_or items k d)) now.grows (was.fed k d low)
        | inr high ↦
            let same : i ≡ k = omega arith in
            let at : get_or items i (record { element = 0; pin = 0 }) ≡ get_or items k d = get_or_default items i (record { element = 0; pin = 0 }) d c.loop-source-test.true ∙ ap (λ j. get_or items j d) same in
            subst (λ (o : Source). Feeds new.seeds.items new.next.items e o (gives_at s o)) at now.fed
      ];
    }

pub returns-clause-fed : goal.returns-clause-fed
returns-clause-fed c = λ group o there.
    let s = sheet c.args.forms.now c.args.pins.now c.args.links.now in
    let items = c.sources_at-source-items.result.now in
    let here : Contains items o = subst (λ xs. Contains xs o) (sym c.sources_at-source-items.ensures) there in
    subst (λ (x : Source). Feeds c.loop-source.self.seeds.items c.loop-source.self.next.items (pin_at s c.args.pin).element x (gives_at s x)) here.2 (c.loop-source.invariant.fed here.0 o (omega (arith, here.1, c.loop-source-test.false)))
