use Rattle.std.proofs.Common.{None, [], ◌∷◌, map, ◌∙◌}
use Rattle.plcx_conditions.specs.declared.broken.Condition.TheVariants.{Name}
use Rattle.plcx_conditions.specs.Broken.{broken}
use Rattle.plcx_conditions.specs.Places.{placed_argument}
use Rattle.plcx_conditions.specs.Statements.{broken_in_arguments}
use Rattle.plcx_unit.specs.Pieces.{setting_of}
use Rattle.plcx_unit.proofs.Folding.{first_two}
use Rattle.plcx_unit.proofs.here.Here.call_of.Goals as goal

pub returns-in_ok-rest-in-None : goal.returns-in_ok-rest-in-None
returns-in_ok-rest-in-None c = rw c.in-None.is (c.sooner.ensures ∙ first_two (broken Name c.args.instance.now.span.start ∷ []) (broken_in_arguments (setting_of c.args.self.now) None [] (map placed_argument c.args.args.now)) _ _ c.broken.ensures c.in_ok-rest-in-None.ensures)
