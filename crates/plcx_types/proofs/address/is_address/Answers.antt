use Rattle.plcx_types.proofs.Addresses.{same_test}
use Rattle.plcx_types.proofs.address.is_address.Goals as goal

pub returns-clause-value : goal.returns-clause-value
returns-clause-value c = same_test c.args.text.now c.has_form.result c.has_form.ensures
