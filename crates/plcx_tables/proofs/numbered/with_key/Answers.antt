use Rattle.std.proofs.Common.{sym, ◌∙◌}
use Rattle.plcx_tables.proofs.Growing.{stays, added}
use Rattle.plcx_tables.proofs.numbered.with_key.Goals as goal

pub returns-then-contains_key : goal.returns-then-contains_key
returns-then-contains_key g c = stays g.K.PartialEq.eq c.args.key c.args.number c.args.numbers.entries (sym c.contains_key.ensures ∙ c.if-contains_key.true)

pub returns : goal.returns
returns g c = added g.K.PartialEq.eq c.args.key c.args.number c.args.numbers.entries c.insert.new.self.entries (sym c.contains_key.ensures ∙ c.if-contains_key.false) c.in_ok-insert.ensures.entries
