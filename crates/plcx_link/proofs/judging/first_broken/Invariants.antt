use Rattle.std.proofs.Common.{◌≡◌, List, Option, drop}
use Rattle.plcx_model.specs.Verdict.{Verdict}
use Rattle.plcx_model.specs.declared.broken.Place.{Place}
use Rattle.plcx_model.specs.declared.project.Pou.{Pou}
use Rattle.plcx_rules.specs.declared.rule.LinkRule.{LinkRule}
use Rattle.plcx_rules.specs.Items.{items_of}
use Rattle.plcx_rules.specs.LinkRules.{BreaksLink, link_place}
use Rattle.plcx_link.specs.Judged.{bodies_of}
use Rattle.plcx_link.proofs.judging.first_broken.Given as goal

-- a verdict over the rules that are left is one over all
abbrev pub invariant-loop-rule : goal.invariant-loop-rule
invariant-loop-rule l = (pous : List Pou) → l.bodies ≡ bodies_of pous pous → (v : Option (LinkRule × Place)) → Verdict (BreaksLink pous) link_place (items_of pous) (drop l.rule-index l.order) v → Verdict (BreaksLink pous) link_place (items_of pous) l.order v
