use Rattle.std.proofs.Common.{rules, ◌≡◌, ◌+◌, List, length, sym, ap, ap₂, ◌∙◌, arith, to_z, of_z, w64}
use Rattle.std.proofs.lemmas.Int.{ints}
use Rattle.std.proofs.lemmas.List.{length-map}
use Rattle.std.specs.Prelude.{slice_range}
use mir.Val.{SFits}
use Rattle.plcx_types.specs.Value.{Value}
use Rattle.plcx_std.specs.Pins.{pins, shown}
use Rattle.plcx_std.specs.State.{kind_of, values, stepped}
use Rattle.plcx_steps.specs.Numbered.{set_from}
use Rattle.plcx_steps.proofs.Standards.{kind_default, kind_stepped, values_length, values_typed, state_of_values}
use Rattle.plcx_steps.proofs.acting.call_standard.Goals as goal

pub load-requires-clause-typed : goal.load-requires-clause-typed
load-requires-clause-typed c = λ i low.
    let count : length c.pins.result.now ≡ length (pins c.args.kind) = sym (length-map c.pins.result.now shown) ∙ ap length c.pins.ensures in
    values_typed c.args.kind c.new-state.result c.args.store.now.values c.args.leaf i (ap kind_of c.new-state.ensures ∙ kind_default c.args.kind) c.requires.typed (omega arith)

pub save-requires-clause-count : goal.save-requires-clause-count
save-requires-clause-count c =
    let kind = ap kind_of c.step.ensures ∙ kind_stepped c.load.new.state _ ∙ c.load.ensures.kind ∙ ap kind_of c.new-state.ensures ∙ kind_default c.args.kind in
    sym (length-map c.pins.result.now shown) ∙ ap length c.pins.ensures ∙ sym (values_length c.args.kind c.step.new.s kind)

pub save-requires-clause-typed : goal.save-requires-clause-typed
save-requires-clause-typed c = λ i low.
    let count : length c.pins.result.now ≡ length (pins c.args.kind) = sym (length-map c.pins.result.now shown) ∙ ap length c.pins.ensures in
    let kind = ap kind_of c.step.ensures ∙ kind_stepped c.load.new.state _ ∙ c.load.ensures.kind ∙ ap kind_of c.new-state.ensures ∙ kind_default c.args.kind in
    values_typed c.args.kind c.step.new.s c.args.store.now.values c.args.leaf i kind c.requires.typed (omega arith)

pub returns : goal.returns
returns c =
    let f : SFits w64 c.args.time = search rules in
    let time : to_z w64 (of_z w64 c.args.time) ≡ c.args.time = omega (arith, ints) in
    let count : length c.pins.result.now ≡ length (pins c.args.kind) = sym (length-map c.pins.result.now shown) ∙ ap length c.pins.ensures in
    let kind = c.load.ensures.kind ∙ ap kind_of c.new-state.ensures ∙ kind_default c.args.kind in
    let loaded = c.load.ensures.values ∙ ap (λ n. slice_range c.args.store.now.values c.args.leaf (c.args.leaf + n)) count in
    let is = state_of_values c.args.kind c.load.new.state _ kind loaded in
    let after = ap values (c.step.ensures ∙ ap₂ (λ s t. stepped s t) (sym is) time) in
    c.save.ensures ∙ ap (λ (vs : List Value). record c.args.store.now { values = set_from c.args.store.now.values c.args.leaf vs }) after
