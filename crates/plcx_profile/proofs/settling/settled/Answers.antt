use Rattle.std.proofs.Common.{List, ap}
use Rattle.plcx_model.specs.declared.project.Pou.{Pou}
use Rattle.plcx_model.specs.declared.project.Project.{Project}
use Rattle.plcx_profile.specs.ProjectIn.{settled}
use Rattle.plcx_profile.proofs.Fineness.{joined_all}
use Rattle.plcx_profile.proofs.settling.settled.Goals as goal

pub returns : goal.returns
unfolding settled
returns c =
    let P : List Pou → Project = λ ps. record { pous = ps } in
    rw (c.from_vec.ensures, c.in_ok-pous.ensures, c.in_ok-heads.ensures, c.in_ok-blocks.ensures, c.as_slice-2.ensures, c.as_slice.ensures) (ap P (joined_all c.args.draft.pous c.args.draft.pous))
