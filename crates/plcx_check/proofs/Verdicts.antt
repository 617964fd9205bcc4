-- From the verdicts of the steps to that of the check.
use Rattle.std.proofs.Common.{◌≡◌, Option, Some, None, sym, subst}
use Rattle.plcx_model.specs.declared.broken.Broken.{Broken}
use Rattle.plcx_model.specs.declared.broken.Place.{Place}
use Rattle.plcx_model.specs.declared.project.Project.{Project}
use Rattle.plcx_rules.specs.declared.form.TypeRule.{TypeRule}
use Rattle.plcx_rules.specs.declared.rule.LinkRule.{LinkRule}
use Rattle.plcx_rules.specs.CheckVerdict.{CheckVerdict, InLinks, InTypes, broken_at}
use Rattle.plcx_rules.specs.LinkRules.{LinkVerdict, number}
use Rattle.plcx_rules.specs.Sources.{links_of}
use Rattle.plcx_rules.specs.TypingRules.{TypingVerdict, type_rule_number}

pub in_links : (project : Project) (b : Broken) (r : LinkRule) (place : Place) → LinkVerdict project (Some (r, place)) → b ≡ broken_at (number r) place → CheckVerdict project (Some b)
in_links project b r place v is = subst (λ (x : Broken). CheckVerdict project (Some x)) (sym is) (InLinks v)

pub in_types : (project : Project) (b : Broken) (r : TypeRule) (place : Place) → LinkVerdict project None → TypingVerdict project (links_of project.pous) (Some (r, place)) → b ≡ broken_at (type_rule_number r) place → CheckVerdict project (Some b)
in_types project b r place links v is = subst (λ (x : Broken). CheckVerdict project (Some x)) (sym is) (InTypes links v)
