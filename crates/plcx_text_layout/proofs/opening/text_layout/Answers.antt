use Rattle.std.proofs.Common.{◌≡◌, List, Some, slice_get, sym, ap, ◌∙◌, subst}
use Rattle.std.specs.Prelude.{is_some}
use Rattle.plcx_meaning.specs.Tree.{PouText}
use Rattle.plcx_st.specs.declared.tree.Unit as read
use Rattle.plcx_text_stored.specs.LaidFor.{IsLaidFor}
use Rattle.plcx_text_layout.proofs.Units.{meant_by, ready_by, place_low}
use Rattle.plcx_text_layout.proofs.opening.text_layout.Goals as goal

pub layout_at-requires-clause-ready : goal.layout_at-requires-clause-ready
layout_at-requires-clause-ready c =
    let same = c.in_ok-scope.ensures ∙ c.as_slice.ensures ∙ ap (λ (u : read.Unit). u.pous) c.unit.ensures.unit in
    ready_by c.in_ok-scope.scope c.args.ready.now same c.unit.ensures.ready

pub layout_at-requires-clause-place : goal.layout_at-requires-clause-place
layout_at-requires-clause-place c =
    let same = c.in_ok-scope.ensures ∙ c.as_slice.ensures ∙ ap (λ (u : read.Unit). u.pous) c.unit.ensures.unit in
    place_low c.in_ok-scope.scope c.args.ready.now c.args.program.now c.in-Some.place same c.in-Some.ensures

pub returns-clause-laid : goal.returns-clause-laid
returns-clause-laid c =
    let at = c.in-Some.ensures in
    let same = meant_by c.in_ok-scope.scope c.args.ready.now (c.in_ok-scope.ensures ∙ c.as_slice.ensures ∙ ap (λ (u : read.Unit). u.pous) c.unit.ensures.unit) in
    record {
      there = ap is_some at.named;
      laid = λ p named.
          let one : Some at.program ≡ Some p = sym at.named ∙ named in
          let is : at.program ≡ p = cc in
          subst (λ (unit : List PouText). IsLaidFor unit p c.in_ok-layout.layout) same
          (c.in_ok-layout.ensures p (ap (λ (unit : List PouText). slice_get unit c.in-Some.place) same ∙ at.there ∙ ap Some is));
    }
