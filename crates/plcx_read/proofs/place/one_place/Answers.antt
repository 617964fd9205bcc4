use Rattle.plcx_read.proofs.OnePlace.{one_place, no_place}
use Rattle.plcx_read.proofs.place.one_place.Goals as goal

pub returns-clause-one : goal.returns-clause-one
returns-clause-one c = one_place

pub returns-clause-none : goal.returns-clause-none
returns-clause-none c = no_place
