use Rattle.std.proofs.Common.{◌≡◌, drop, fold}
use Rattle.plcx_model.specs.declared.body.BodyElement.{BodyElement}
use Rattle.plcx_profile.specs.Sizes.{plus, with_kind, body_parts}
use Rattle.plcx_profile.proofs.sizes.body_parts.Given as goal

abbrev pub invariant-loop-element : goal.invariant-loop-element
invariant-loop-element l = fold (λ n (e : BodyElement). with_kind (plus n 1) e.kind) l.n (drop l.element-index l.elements) ≡ body_parts l.elements
