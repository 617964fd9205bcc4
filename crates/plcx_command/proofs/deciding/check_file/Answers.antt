use Rattle.std.proofs.lemmas.Result.{IfOk-weaker}
use Rattle.plcx_command.specs.ReplyOf.{answer_of}
use Rattle.plcx_command.specs.declared.line.ProjectFile.TheVariants.{First}
use Rattle.plcx_command.proofs.Takes.{accepted_over, refused_over}
use Rattle.plcx_command.proofs.deciding.check_file.Goals as goal

pub returns-in-Accepted : goal.returns-in-Accepted
returns-in-Accepted g c =
    let file = rw c.in-Accepted.is at c.in_ok-take_file.ensures.taken in
    IfOk-weaker c.accepted.result _ _ (λ reply e. accepted_over First _ _ c.args.name.now _ c.in-Accepted.field-0 (answer_of reply) file e) c.accepted.ensures

pub returns : goal.returns
returns g c = refused_over First _ _ c.args.name.now _ (answer_of c.in-Refused.reply) (rw c.in-Refused.is at c.in_ok-take_file.ensures.taken)
