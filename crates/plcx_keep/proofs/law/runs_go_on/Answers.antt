use Rattle.plcx_state.specs.Meanings.{KeepsAs}
use Rattle.plcx_state.proofs.Meaning.{keeps_as}
use Rattle.plcx_keep.proofs.law.runs_go_on.Goals as goal

pub returns : goal.returns
unfolding KeepsAs
returns c = λ l rows kept laid carried. keeps_as l laid kept carried.state
