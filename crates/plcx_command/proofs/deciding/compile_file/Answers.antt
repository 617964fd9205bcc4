use Rattle.std.proofs.Common.{refl}
use Rattle.plcx_command.specs.Answer.{output}
use Rattle.plcx_command.specs.ReplyOf.{answer_of}
use Rattle.plcx_command.specs.declared.line.ProjectFile.TheVariants.{First}
use Rattle.plcx_command.proofs.Takes.{accepted_over, refused_over, text_there}
use Rattle.plcx_command.proofs.deciding.compile_file.Goals as goal

pub returns-in_ok-text_of-in-Accepted : goal.returns-in_ok-text_of-in-Accepted
returns-in_ok-text_of-in-Accepted g c =
    let checked = c.in-Accepted.checked in
    let file = rw c.in-Accepted.is at c.in_ok-checked.ensures.taken in
    let text = c.in_ok-text_of-in-Accepted.field-0.items in
    accepted_over First _ _ c.args.name.now _ checked (output text) file (text_there _ checked file text (output text) c.in_ok-text_of-in-Accepted.ensures refl)

pub returns-in-Refused : goal.returns-in-Refused
returns-in-Refused g c = refused_over First _ _ c.args.name.now _ (answer_of c.in-Refused.reply) (rw c.in-Refused.is at c.in_ok-checked.ensures.taken)
