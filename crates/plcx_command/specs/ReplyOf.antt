-- A reply of the code.
use Rattle.plcx_command.specs.Answer.{Answer, output, refusal}
use Rattle.plcx_command.specs.declared.reply.Reply.{Reply}
use Rattle.plcx_command.specs.declared.reply.Reply.TheVariants.{Output, Refusal}

abbrev pub answer_of : Reply → Answer
answer_of (Output bytes) = output bytes.items
answer_of (Refusal why bytes) = refusal why bytes.items
