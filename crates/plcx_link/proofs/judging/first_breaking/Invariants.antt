use Rattle.std.proofs.Common.{◌≡◌, List, option_map}
use Rattle.std.specs.List.{find}
use Rattle.plcx_model.specs.declared.project.Pou.{Pou}
use Rattle.plcx_rules.specs.Items.{items_of}
use Rattle.plcx_rules.specs.LinkRules.{breaks, link_place}
use Rattle.plcx_link.specs.Judged.{bodies_of}
use Rattle.plcx_link.proofs.Judgings.{places_from}
use Rattle.plcx_link.proofs.judging.first_breaking.Given as goal

-- the first of those that are left is the first of all
abbrev pub invariant-loop-body : goal.invariant-loop-body
invariant-loop-body l = (pous : List Pou) → l.bodies ≡ bodies_of pous pous → places_from pous l.rule l.body-index ≡ option_map (link_place l.rule) (find (breaks pous l.rule) (items_of pous))
