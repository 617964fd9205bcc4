use Rattle.std.proofs.Common.{map, ◌∙◌}
use Rattle.plcx_table.specs.Flat.{shown_item}
use Rattle.plcx_table.proofs.Firsts.{as_structure, as_attributes}
use Rattle.plcx_table.proofs.verdict.first_breaking.Goals as goal

pub returns-in-Structure : goal.returns-in-Structure
returns-in-Structure c = rw c.in-Structure.is (c.first_misplaced.ensures ∙ as_structure c.args.namespace.now (map shown_item c.args.items.now) (map shown_item c.args.items.now))

pub returns-in-Attributes : goal.returns-in-Attributes
returns-in-Attributes c = rw c.in-Attributes.is (c.first_malformed.ensures ∙ as_attributes c.args.namespace.now (map shown_item c.args.items.now) (map shown_item c.args.items.now))
