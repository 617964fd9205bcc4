use Rattle.std.proofs.Common.{◌∙◌, List, ap, map}
use Rattle.plcx_scan.specs.declared.event.Input.{Input}
use Rattle.plcx_tasks.specs.Tasks.{input_of, with_input}
use Rattle.plcx_tasks.specs.Steps.{entry_input}
use Rattle.plcx_tasks.proofs.Putting.{put_is}
use Rattle.plcx_tasks.proofs.giving.Pending.put.Goals as goal

pub returns : goal.returns
returns c = ap (map entry_input) c.in_ok-insert.ensures.entries ∙ put_is c.args.input.now c.self.inside.values.entries ∙ ap (λ (ins : List Input). with_input ins (input_of c.args.input.now)) c.self.view_is
