use Rattle.std.proofs.Common.{◌∙◌, map, ap, slice_get}
use Rattle.plcx_link.specs.InProject.{InProject}
use Rattle.plcx_link.specs.Bodies.{resolved}
use Rattle.plcx_link.proofs.Standings.{joined_by}
use Rattle.plcx_link.proofs.body.ScopedBody.standing.Goals as goal

pub returns : goal.returns
returns c =
    let first = rw c.elements.ensures at c.element_at-element.ensures in
    let second = rw (c.deref.ensures.value, c.self.invariant.1) at c.resolved_at-resolved.ensures in
    let whole = second ∙ ap (λ (b : InProject). slice_get (map (resolved b.pous b.owner) b.owner.body.elements) c.args.place) c.self.view_is in
    c.joined.ensures ∙ joined_by c.args.self.now.pous c.args.self.now.owner c.args.self.now.owner.body.elements c.args.place _ _ first whole
