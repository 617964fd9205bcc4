use Rattle.std.proofs.Common.{sym, ◌∙◌, subst}
use Rattle.plcx_model.specs.declared.source.Wire.{Wire}
use Rattle.plcx_model.specs.Shown.{graph_of}
use Rattle.plcx_model.specs.Paths.{IsWire}
use Rattle.plcx_order.specs.Classes.{AreSound}
use Rattle.plcx_order.proofs.LinkSteps.{sound_more, wire_kept, wire_there}
use Rattle.std.proofs.Common.{inl, inr}
use Rattle.plcx_order.proofs.links.add.Goals as goal

pub returns-clause-sound : goal.returns-clause-sound
returns-clause-sound c =
    let g = graph_of c.args.wires.now in
    let wire : Wire = c.args.wire in
    let back : Wire = record { from = wire.to; to = wire.from } in
    let first = sym c.takes_part.ensures ∙ c.if-not-takes_part.false in
    let second = sym c.takes_part-2.ensures ∙ c.if-not-takes_part-2.false in
    let one = sound_more g c.args.links.now.items wire c.requires.sound (record { first = first; second = second; wired = inl c.requires.wire }) in
    let two = sound_more g c.push.new.self.items back (subst (AreSound g) (sym c.in_ok-push.ensures.items) one) (record { first = second; second = first; wired = inr c.requires.wire }) in
    subst (AreSound g) (sym c.in_ok-push-2.ensures.items) two

pub returns-clause-kept : goal.returns-clause-kept
returns-clause-kept c = λ u v w.
    let wire : Wire = c.args.wire in
    let back : Wire = record { from = wire.to; to = wire.from } in
    subst (λ xs. IsWire xs u v) (sym c.in_ok-push-2.ensures.items) (wire_kept c.push.new.self.items back u v (subst (λ xs. IsWire xs u v) (sym c.in_ok-push.ensures.items) (wire_kept c.args.links.now.items wire u v w)))

pub returns-clause-forth : goal.returns-clause-forth
returns-clause-forth c = λ from to.
    let wire : Wire = c.args.wire in
    let back : Wire = record { from = wire.to; to = wire.from } in
    subst (λ xs. IsWire xs wire.from.element wire.to.element) (sym c.in_ok-push-2.ensures.items) (wire_kept c.push.new.self.items back wire.from.element wire.to.element (subst (λ xs. IsWire xs wire.from.element wire.to.element) (sym c.in_ok-push.ensures.items) (wire_there c.args.links.now.items wire)))

pub returns-clause-back : goal.returns-clause-back
returns-clause-back c = λ from to.
    let wire : Wire = c.args.wire in
    let back : Wire = record { from = wire.to; to = wire.from } in
    subst (λ xs. IsWire xs wire.to.element wire.from.element) (sym c.in_ok-push-2.ensures.items) (wire_there c.push.new.self.items back)
