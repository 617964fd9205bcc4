-- What `typing` answers.
use Rattle.std.specs.Prelude.{◌≡◌, List, Some, None}
use Rattle.plcx_model.specs.declared.broken.Broken.{Broken}
use Rattle.plcx_model.specs.declared.broken.Place.{Place}
use Rattle.plcx_model.specs.declared.plan.Types.{Types}
use Rattle.plcx_model.specs.declared.project.Project.{Project}
use Rattle.plcx_model.specs.declared.source.Source.{Source}
use Rattle.plcx_rules.specs.declared.form.TypeRule.{TypeRule}
use Rattle.plcx_rules.specs.CheckVerdict.{broken_at}
use Rattle.plcx_rules.specs.Typed.{HaveTypes}
use Rattle.plcx_rules.specs.TypingRules.{TypingVerdict, type_rule_number}
use Rattle.plcx_typing.specs.declared.error.TypingError.{TypingError}
use Rattle.plcx_typing.specs.declared.error.TypingError.TheVariants as error

-- no rule is broken, and the types are those of the closure
pub record GivesTypes (project : Project) (links : List (List (List Source))) (given : Types) : Type 0 where
  pub verdict : TypingVerdict project links None
  pub types : HaveTypes project.pous links given

-- the first rule that is broken, and its first place
pub record IsRefused (project : Project) (links : List (List (List Source))) (b : Broken) : Type 0 where
  pub rule : TypeRule
  pub place : Place
  pub verdict : TypingVerdict project links (Some (rule, place))
  pub is : b ≡ broken_at (type_rule_number rule) place

-- the first rule that is broken, at its first place; want of memory may come anywhere
abbrev pub RefusesTypes : Project → List (List (List Source)) → TypingError → Type 0
RefusesTypes project links (error.Broken b) = IsRefused project links b
RefusesTypes project links error.NoMemory = Unit {0}
