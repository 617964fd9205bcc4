use Rattle.std.proofs.Common.{Some, subst}
use Rattle.plcx_rules.specs.TypingRules.{TypingVerdict}
use Rattle.plcx_typing.specs.Answers.{RefusesTypes}
use Rattle.plcx_check.proofs.Verdicts.{in_types}
use Rattle.plcx_check.proofs.verdict.typed.Goals as goal

pub returns-in-Err-Broken : goal.returns-in-Err-Broken
returns-in-Err-Broken c =
    let project = c.args.project.now in
    let e = subst (RefusesTypes project c.args.links.now.bodies) c.in-Err-Broken.field-0-is c.in-Err-Broken.ensures in
    in_types project c.in-Err-Broken.broken e.rule e.place c.requires.kept (subst (λ links. TypingVerdict project links (Some (e.rule, e.place))) c.requires.sources e.verdict) e.is
