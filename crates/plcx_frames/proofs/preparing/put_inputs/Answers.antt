use Rattle.std.proofs.Common.{List, take, refl, sym, ap, ◌∙◌, subst, Some}
use Rattle.std.proofs.lemmas.List.Sums.{fold_more}
use Rattle.std.proofs.lemmas.Option.{slice_get-get_or}
use Rattle.plcx_types.specs.Value.{Value}
use Rattle.plcx_state.proofs.Eaches.{each_get}
use Rattle.plcx_state.specs.Stores.{Stored, HasValue}
use Rattle.plcx_scan.specs.declared.event.Input.{Input}
use Rattle.plcx_steps.specs.Typed.{SameTypes}
use Rattle.plcx_steps.proofs.Typing.{same_refl, same_set, same_then}
use Rattle.plcx_stored.specs.Between.{with_input, with_inputs}
use Rattle.plcx_frames.specs.Frames.{Puts}
use Rattle.plcx_frames.proofs.preparing.put_inputs.Goals as goal

-- each value begins with its type
pub loop-input-init : goal.loop-input-init
loop-input-init c = record { set = refl; same = same_refl c.args.store.now.values }

pub set-requires : goal.set-requires
set-requires c =
    let inputs = c.args.inputs.now in
    let i = c.loop-input.input-index in
    let input = c.input-item.result in
    let there = slice_get-get_or inputs i input c.loop-input-test.true ∙ ap Some (sym c.input-item.is) in
    c.loop-input.invariant.same.each input.leaf input.value.ty (each_get (Puts c.args.store.now.values) inputs i input there c.requires)

pub loop-input-preserved : goal.loop-input-preserved
loop-input-preserved c =
    let inputs = c.args.inputs.now in
    let i = c.loop-input.input-index in
    let input = c.input-item.result in
    let first = c.args.store.now in
    let store = c.loop-input.store in
    let there = slice_get-get_or inputs i input c.loop-input-test.true ∙ ap Some (sym c.input-item.is) in
    let fits = c.loop-input.invariant.same.each input.leaf input.value.ty (each_get (Puts first.values) inputs i input there c.requires) in
    let values : List Value → Stored = λ vs. record first { values = vs } in
    let so_far = ap (λ (s : Stored). s.values) c.loop-input.invariant.set in
    record {
      set =
          c.set.ensures
          ∙ ap (λ (s : Stored). record s { values = with_input store.values input }) c.loop-input.invariant.set
          ∙ ap (λ (vs : List Value). values (with_input vs input)) so_far
          ∙ ap (λ (x : Input). values (with_input (with_inputs (take i inputs) first.values) x)) c.input-item.is
          ∙ ap values (sym (fold_more with_input first.values inputs i input c.loop-input-test.true));
      same = same_then first.values store.values c.set.new.self.values c.loop-input.invariant.same
          (subst (SameTypes store.values) (sym (ap (λ (s : Stored). s.values) c.set.ensures)) (same_set store.values input.leaf input.value input.value.ty fits refl));
    }
