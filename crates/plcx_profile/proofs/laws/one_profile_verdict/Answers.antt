use Rattle.plcx_profile.proofs.OneProfile.{one-profile}
use Rattle.plcx_profile.proofs.laws.one_profile_verdict.Goals as goal

pub returns : goal.returns
returns c = one-profile
