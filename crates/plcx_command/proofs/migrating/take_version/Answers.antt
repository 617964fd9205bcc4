use Rattle.std.specs.Option.{option_map}
use Rattle.std.proofs.lemmas.Result.{IfOk-weaker}
use Rattle.plcx_command.specs.ReplyOf.{answer_of}
use Rattle.plcx_command.specs.VersionOf.{AnswersNoProgram}
use Rattle.plcx_command.proofs.Takes.{refused_over}
use Rattle.plcx_command.proofs.Carried.{version_whole}
use Rattle.plcx_command.proofs.migrating.take_version.Goals as goal

pub returns-in-Accepted-clause-version : goal.returns-in-Accepted-clause-version
returns-in-Accepted-clause-version g c =
    let program = option_map (λ s. s.now) c.args.program in
    let file = rw c.in-Accepted.is at c.in_ok-checked.ensures.taken in
    IfOk-weaker c.version_of.result _ _ (λ v h. version_whole c.args.file _ _ c.args.name.now program c.in-Accepted.checked file v h) c.version_of.ensures

pub returns-in-Refused-clause-version : goal.returns-in-Refused-clause-version
returns-in-Refused-clause-version g c =
    let program = option_map (λ s. s.now) c.args.program in
    refused_over c.args.file _ _ c.args.name.now (AnswersNoProgram c.args.file program) (answer_of c.in-Refused.reply) (rw c.in-Refused.is at c.in_ok-checked.ensures.taken)
