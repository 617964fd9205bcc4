use Rattle.std.proofs.Common.{◌≡◌, Some, sym, ap, ◌∙◌}
use Rattle.std.specs.Prelude.{is_some}
use Rattle.std.proofs.lemmas.Option.{slice_get_within}
use Rattle.plcx_view.specs.Diagrams.{diagrams_of}
use Rattle.plcx_opening.proofs.opening.diagram_layout.Goals as goal

pub layout_at-requires-clause-place : goal.layout_at-requires-clause-place
layout_at-requires-clause-place c =
    let a = c.args.checked.now in
    let at = c.in-Some.ensures in
    slice_get_within (diagrams_of a.project a.links a.types a.plan) c.in-Some.place at.program at.there

pub returns-clause-laid : goal.returns-clause-laid
returns-clause-laid c =
    let at = c.in-Some.ensures in
    record {
      there = ap is_some at.named;
      laid = λ p named.
          let one : Some at.program ≡ Some p = sym at.named ∙ named in
          let same : at.program ≡ p = cc in
          c.in_ok-layout.ensures p (at.there ∙ ap Some same);
    }
