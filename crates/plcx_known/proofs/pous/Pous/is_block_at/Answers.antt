use Rattle.std.proofs.Common.{sym, ◌∙◌}
use Rattle.plcx_known.proofs.Units.{block_is, no_block_is}
use Rattle.plcx_known.proofs.pous.Pous.is_block_at.Goals as goal

pub returns-in-None : goal.returns-in-None
returns-in-None c = let there = rw (c.in-None.is, c.list.ensures) at c.pou_at.ensures in sym (no_block_is c.args.self.now c.args.place (sym there))

pub returns-in-Some : goal.returns-in-Some
returns-in-Some c = let there = rw (c.in-Some.is, c.list.ensures) at c.pou_at.ensures in c.is_block.ensures ∙ sym (block_is c.args.self.now c.args.place c.in-Some.pou.now (sym there))
