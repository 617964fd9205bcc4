use Rattle.std.proofs.Common.{List, map, ap, ◌∙◌}
use Rattle.std.specs.Prelude.{nat_lt}
use Rattle.plcx_types.specs.Limits.{max_text_leaves}
use Rattle.plcx_known.specs.Unit.{placed_of}
use Rattle.plcx_known.specs.Owned.{Typed}
use Rattle.plcx_known.specs.Sizes.{capped, sizes}
use Rattle.plcx_known.proofs.LevelSizes.{large_are}
use Rattle.plcx_known.proofs.scope.Scope.large.Goals as goal

pub returns : goal.returns
returns c =
    c.in_ok-too_large.ensures
    ∙ ap (map (nat_lt max_text_leaves)) (c.deref.ensures.value ∙ c.in_ok-all.ensures ∙ ap (λ (os : List (List Typed)). map capped (sizes 18 os)) c.owners-owners.ensures)
    ∙ large_are (placed_of c.args.self.now)
