-- Statuses, with their numbers, and the status of a refusal.
use Rattle.std.specs.Prelude.{ℕ}
use Rattle.plcx_command.specs.declared.status.Refused.{Refused}
use Rattle.plcx_command.specs.declared.status.Refused.TheVariants as refused
use Rattle.plcx_command.specs.declared.status.Status.{Status}
use Rattle.plcx_command.specs.declared.status.Status.TheVariants as status

abbrev pub number_of : Status → ℕ
number_of status.Done = 0
number_of status.Broken = 1
number_of status.Usage = 2
number_of status.ReadFault = 3
number_of status.WriteFault = 4
number_of status.NoMemory = 5
number_of status.TextBroken = 6
number_of status.EventsBroken = 7
number_of status.NoProgram = 8
number_of status.TasksBroken = 10

abbrev pub status_of : Refused → Status
status_of refused.Broken = status.Broken
status_of refused.Usage = status.Usage
status_of refused.ReadFault = status.ReadFault
status_of refused.NoMemory = status.NoMemory
status_of refused.TextBroken = status.TextBroken
status_of refused.EventsBroken = status.EventsBroken
status_of refused.NoProgram = status.NoProgram
status_of refused.TasksBroken = status.TasksBroken
