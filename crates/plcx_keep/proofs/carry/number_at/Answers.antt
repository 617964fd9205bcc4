use Rattle.std.proofs.Common.{◌∙◌}
use Rattle.plcx_state.specs.Layouts.{meant_path}
use Rattle.plcx_keep.proofs.Found.{found_by_text, found_below}
use Rattle.plcx_keep.proofs.carry.number_at.Goals as goal

pub returns-clause-value : goal.returns-clause-value
returns-clause-value c = (rw (c.deref.ensures.value, c.in_ok-text.ensures.text) at c.number.ensures) ∙ found_by_text c.args.leaf.now c.args.table.now c.requires.named c.in_ok-text.ensures.plain c.requires.told

pub returns-clause-within : goal.returns-clause-within
returns-clause-within c =
    found_below (meant_path c.args.leaf.now.path) c.args.table.now c.number.result
    ((rw (c.deref.ensures.value, c.in_ok-text.ensures.text) at c.number.ensures) ∙ found_by_text c.args.leaf.now c.args.table.now c.requires.named c.in_ok-text.ensures.plain c.requires.told)
