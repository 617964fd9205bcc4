-- The first rule from 20 to 36 that a project breaks, and its place.
use Rattle.std.specs.Prelude.{ℕ, Option, Some, None}
use Rattle.plcx_model.specs.declared.broken.Broken.{Broken}
use Rattle.plcx_model.specs.declared.broken.Place.{Place}
use Rattle.plcx_model.specs.declared.project.Project.{Project}
use Rattle.plcx_rules.specs.declared.form.TypeRule.{TypeRule}
use Rattle.plcx_rules.specs.declared.rule.LinkRule.{LinkRule}
use Rattle.plcx_rules.specs.LinkRules.{LinkVerdict, number}
use Rattle.plcx_rules.specs.Sources.{links_of}
use Rattle.plcx_rules.specs.TypingRules.{TypingVerdict, type_rule_number}

-- a rule by its number, with its place
abbrev pub broken_at : ℕ → Place → Broken
broken_at rule place = record { rule = record { 0 = rule }; place = place }

-- types are looked at where each pin has its sources
pub data CheckVerdict (project : Project) : Option Broken → Type 0 where
  InLinks : {r : LinkRule} {place : Place} → LinkVerdict project (Some (r, place)) → CheckVerdict project (Some (broken_at (number r) place))
  InTypes : {r : TypeRule} {place : Place} → LinkVerdict project None → TypingVerdict project (links_of project.pous) (Some (r, place))
      → CheckVerdict project (Some (broken_at (type_rule_number r) place))
  Unbroken : LinkVerdict project None → TypingVerdict project (links_of project.pous) None → CheckVerdict project None
