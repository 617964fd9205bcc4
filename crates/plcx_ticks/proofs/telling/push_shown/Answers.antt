use Rattle.std.proofs.lemmas.Option.{slice_get_past}
use Rattle.plcx_ticks.proofs.Shown.{no_value}
use Rattle.plcx_ticks.proofs.telling.push_shown.Goals as goal

pub returns-in_default : goal.returns-in_default
returns-in_default c = λ leaves. no_value c.args.text.now.items c.args.leaf.now leaves c.args.values.now c.args.place (slice_get_past c.args.values.now c.args.place c.in_default.ensures.lookup.3)
