use Rattle.std.proofs.Common.{◌≡◌, List, Some, slice_get, refl, sym, ap, ◌∙◌, subst, arith}
use Rattle.std.specs.Prelude.{is_some}
use Rattle.plcx_meaning.specs.Tree.{PouText}
use Rattle.plcx_st.specs.declared.tree.Unit as read
use Rattle.plcx_st.specs.Meant.{meant}
use Rattle.plcx_state.specs.Stores.{IsStoreOf}
use Rattle.plcx_text_stored.specs.LaidFor.{IsLaidFor}
use Rattle.plcx_text_layout.proofs.Units.{ready_by, place_low as place_among}
use Rattle.plcx_run.proofs.Opened.{place_low, is_there, laid_at, kept_for, standing, opens_for}
use Rattle.plcx_run.proofs.side.TextSide.of_prepared.Goals as goal

pub layout_at-requires-clause-ready : goal.layout_at-requires-clause-ready
layout_at-requires-clause-ready c =
    let same = c.in_ok-scope.ensures ∙ c.as_slice.ensures ∙ ap (λ (u : read.Unit). u.pous) c.unit.ensures.unit in
    ready_by c.in_ok-scope.scope c.args.ready.now same c.unit.ensures.ready

pub layout_at-requires-clause-place : goal.layout_at-requires-clause-place
layout_at-requires-clause-place c =
    let same = c.in_ok-scope.ensures ∙ c.as_slice.ensures ∙ ap (λ (u : read.Unit). u.pous) c.unit.ensures.unit in
    place_among c.in_ok-scope.scope c.args.ready.now c.args.name.now c.in_ok-place.place same c.in_ok-place.ensures.there

pub open-requires : goal.open-requires
open-requires c =
    let same = c.in_ok-scope.ensures ∙ c.as_slice.ensures ∙ ap (λ (u : read.Unit). u.pous) c.unit.ensures.unit in
    kept_for (meant c.args.ready.now) c.args.name.now c.in_ok-place.place c.in_ok-place.ensures.there c.in_ok-layout.layout
    (laid_at c.in_ok-scope.scope c.args.ready.now same c.in_ok-place.place c.in_ok-layout.layout c.in_ok-layout.ensures) c.args.retained.now c.requires.retained

pub frame_of-requires : goal.frame_of-requires
frame_of-requires c =
    let unit = meant c.args.ready.now in
    let low = place_low unit c.args.name.now c.in_ok-place.place c.in_ok-place.ensures.there in
    let count = c.bodies_are_there.ensures unit c.args.program c.args.text ∣ c.requires.prepared ∣₁ in
    omega arith

pub invariant_of-result : goal.invariant_of-result
invariant_of-result c =
    let same = c.in_ok-scope.ensures ∙ c.as_slice.ensures ∙ ap (λ (u : read.Unit). u.pous) c.unit.ensures.unit in
    record {
      stands = standing (meant c.args.ready.now) c.args.name.now c.in_ok-place.place c.in_ok-place.ensures.there c.in_ok-layout.layout c.args.program c.args.text c.in_ok-state.state c.in_ok-frame.frame
          (laid_at c.in_ok-scope.scope c.args.ready.now same c.in_ok-place.place c.in_ok-layout.layout c.in_ok-layout.ensures) c.requires.prepared
          (subst (IsStoreOf c.in_ok-layout.layout) (sym c.in_ok-state.ensures.store) c.in_ok-store.ensures.store) c.in_ok-state.ensures.inputs c.in_ok-frame.ensures;
    }

pub returns-clause-opened : goal.returns-clause-opened
returns-clause-opened c =
    let unit = meant c.args.ready.now in
    let at = c.in_ok-place.ensures.there in
    let same = c.in_ok-scope.ensures ∙ c.as_slice.ensures ∙ ap (λ (u : read.Unit). u.pous) c.unit.ensures.unit in
    let laid = laid_at c.in_ok-scope.scope c.args.ready.now same c.in_ok-place.place c.in_ok-layout.layout c.in_ok-layout.ensures in
    record {
      of = refl;
      there = ap is_some at.named;
      opens = λ p named.
          let one : Some at.program ≡ Some p = sym at.named ∙ named in
          let is : at.program ≡ p = cc in
          opens_for c.store_opens.ensures _ p (is_there unit c.args.name.now c.in_ok-place.place at ∙ is) (laid p (at.there ∙ ap Some is)) c.leaves.ensures.laid c.args.retained.now
          (kept_for unit c.args.name.now c.in_ok-place.place at c.in_ok-layout.layout laid c.args.retained.now c.requires.retained)
          (c.in_ok-state.ensures.store ∙ c.in_ok-store.ensures.value) refl refl;
      time = refl;
    }
