use Rattle.plcx_text_stored.proofs.Propositions.{laid_prop, agrees_prop}
use Rattle.plcx_text_stored.proofs.laws.one_agreement.Goals as goal

pub returns : goal.returns
returns c = (laid_prop, agrees_prop)
