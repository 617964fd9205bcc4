use Rattle.std.proofs.Common.{◌≡◌, ◌<◌, ◌∷◌, ◌++◌, [], length, set, sym, ◌∙◌, ap, subst, arith}
use Rattle.std.proofs.lemmas.List.{get_or_read}
use Rattle.plcx_rules.specs.declared.form.Out.{Out}
use Rattle.plcx_rules.specs.declared.form.Gives.TheVariants.{Typed, Grouped}
use Rattle.plcx_rules.specs.Types.{pin_at, gives_at}
use Rattle.plcx_typing.specs.Sheets.{sheet}
use Rattle.plcx_typing.specs.Closure.{next_of}
use Rattle.plcx_typing.specs.Flows.{IsFlowOf, Feeds, Grows}
use Rattle.plcx_typing.proofs.Flowing.{given_within, seeded_more, passed_more, passed_grows, passed_fed}
use Rattle.plcx_typing.proofs.flow.Flow.feed.Goals as goal

pub returns-in_ok-push-in-Typed-clause-flow : goal.returns-in_ok-push-in-Typed-clause-flow
returns-in_ok-push-in-Typed-clause-flow c =
    let s = sheet c.args.forms.now c.args.pins.now c.args.links.now in
    let gives : gives_at s c.args.source ≡ Typed c.in-Typed.ty = sym (ap (λ (o : Out). o.gives) c.output_at.ensures) ∙ c.in-Typed.is in
    subst (λ seeds. IsFlowOf s seeds c.args.self.now.next.items) (sym c.in_ok-push-in-Typed.ensures.items)
    (seeded_more s c.args.pin c.args.source c.requires.placed c.requires.pin c.requires.group c.requires.source c.args.self.now.seeds.items c.args.self.now.next.items c.in-Typed.ty gives c.requires.flow)

pub returns-in_ok-push-in-Grouped-clause-flow : goal.returns-in_ok-push-in-Grouped-clause-flow
returns-in_ok-push-in-Grouped-clause-flow c =
    let s = sheet c.args.forms.now c.args.pins.now c.args.links.now in
    let next = c.args.self.now.next.items in
    let o = c.args.source in
    let e = (pin_at s c.args.pin).element in
    let gives : gives_at s o ≡ Grouped = sym (ap (λ (x : Out). x.gives) c.output_at.ensures) ∙ c.in-Grouped.is in
    let low : o.element < length next = omega (arith, given_within s o gives, c.requires.flow.within.count) in
    let list : c.push-in-Grouped.new.self ≡ next_of next o.element ++ e ∷ [] = c.in_ok-push-in-Grouped.ensures.ok ∙ ap (λ xs. xs ++ e ∷ []) (get_or_read next o.element c.index_mut.result.now low c.index_mut.ensures.value []) in
    subst (λ xs. IsFlowOf s c.args.self.now.seeds.items (set next o.element xs)) (sym list)
    (passed_more s c.args.pin o c.requires.placed c.requires.pin c.requires.group c.requires.source c.args.self.now.seeds.items next gives c.requires.flow)

pub returns-in_ok-push-in-Grouped-clause-fed : goal.returns-in_ok-push-in-Grouped-clause-fed
returns-in_ok-push-in-Grouped-clause-fed c =
    let s = sheet c.args.forms.now c.args.pins.now c.args.links.now in
    let next = c.args.self.now.next.items in
    let o = c.args.source in
    let e = (pin_at s c.args.pin).element in
    let gives : gives_at s o ≡ Grouped = sym (ap (λ (x : Out). x.gives) c.output_at.ensures) ∙ c.in-Grouped.is in
    let low : o.element < length next = omega (arith, given_within s o gives, c.requires.flow.within.count) in
    let list : c.push-in-Grouped.new.self ≡ next_of next o.element ++ e ∷ [] = c.in_ok-push-in-Grouped.ensures.ok ∙ ap (λ xs. xs ++ e ∷ []) (get_or_read next o.element c.index_mut.result.now low c.index_mut.ensures.value []) in
    subst (λ xs. Feeds c.args.self.now.seeds.items (set next o.element xs) e o (gives_at s o)) (sym list)
    (passed_fed s c.args.pin o c.requires.placed c.requires.pin c.requires.group c.requires.source c.args.self.now.seeds.items next gives c.requires.flow)

pub returns-in_ok-push-in-Grouped-clause-grows : goal.returns-in_ok-push-in-Grouped-clause-grows
returns-in_ok-push-in-Grouped-clause-grows c =
    let s = sheet c.args.forms.now c.args.pins.now c.args.links.now in
    let next = c.args.self.now.next.items in
    let seeds = c.args.self.now.seeds.items in
    let o = c.args.source in
    let e = (pin_at s c.args.pin).element in
    let gives : gives_at s o ≡ Grouped = sym (ap (λ (x : Out). x.gives) c.output_at.ensures) ∙ c.in-Grouped.is in
    let low : o.element < length next = omega (arith, given_within s o gives, c.requires.flow.within.count) in
    let list : c.push-in-Grouped.new.self ≡ next_of next o.element ++ e ∷ [] = c.in_ok-push-in-Grouped.ensures.ok ∙ ap (λ xs. xs ++ e ∷ []) (get_or_read next o.element c.index_mut.result.now low c.index_mut.ensures.value []) in
    subst (λ xs. Grows seeds next seeds (set next o.element xs)) (sym list)
    (passed_grows s c.args.pin o c.requires.placed c.requires.pin c.requires.group c.requires.source seeds next gives c.requires.flow)
