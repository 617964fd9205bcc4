use Rattle.plcx_table.proofs.verdict.format_verdict.Goals as goal

pub returns : goal.returns
returns c = rw (c.deref.ensures.value, c.in_ok-items.ensures, c.attribute_of.ensures) at c.in_ok-first_broken.ensures
