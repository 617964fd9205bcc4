use Rattle.std.proofs.Common.{◌≡◌, Option, Some, None, false, is_some, refl, sym, ◌∙◌}
use Rattle.plcx_plan.proofs.Lengths.{seconds_some, literal_some, literal_none}
use Rattle.plcx_plan.proofs.interval.interval_of.Goals as goal

none_from : {A : Type 0} (o : Option A) → is_some o ≡ false → o ≡ None
none_from None h = refl
none_from (Some x) h = cc

pub returns-then-is_some-clause-some : goal.returns-then-is_some-clause-some
returns-then-is_some-clause-some c = seconds_some c.args.text.now c.seconds_within-seconds.result c.seconds_within-seconds.ensures

pub returns-clause-some : goal.returns-clause-some
returns-clause-some c = literal_some c.args.text.now c.literal_within.result c.literal_within.ensures.some

pub returns-clause-none : goal.returns-clause-none
returns-clause-none c = literal_none c.args.text.now c.seconds_within-seconds.result c.literal_within.result c.seconds_within-seconds.ensures (none_from c.seconds_within-seconds.result (sym c.is_some.ensures ∙ c.if-is_some.false)) c.literal_within.ensures.none
