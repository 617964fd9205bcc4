use Rattle.std.proofs.Common.{arith, length, ◌≤◌}
use Rattle.std.proofs.lemmas.Result.{IfOk-weaker}
use Rattle.plcx_types.specs.Limits.{max_file_bytes}
use Rattle.plcx_command.proofs.Takes.{taken_whole}
use Rattle.plcx_command.proofs.taking.take_file.Goals as goal

pub returns-in-Ok-clause-taken : goal.returns-in-Ok-clause-taken
returns-in-Ok-clause-taken g c =
    let short : length c.in-Ok.bytes.items ≤ max_file_bytes = omega (arith, c.in-Ok.bytes.ok.0, c.in-Ok.ensures.whole.0) in
    IfOk-weaker c.take.result _ _ (λ t h. taken_whole c.args.file _ _ c.args.name.now c.in-Ok.bytes.items short c.in-Ok.ensures.whole.1 t (rw c.deref.ensures.value at h)) c.take.ensures
