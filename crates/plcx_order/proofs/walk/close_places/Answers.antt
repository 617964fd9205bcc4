use Rattle.std.proofs.Common.{◌≡◌, ◌<◌, ℕ, get_or, refl, arith}
use Rattle.plcx_order.specs.Walks.{IsClosed, IsClosedUpTo}
use Rattle.plcx_order.specs.declared.walk.Place.{Place}
use Rattle.plcx_order.specs.declared.walk.Place.TheVariants.{Unseen, Open, Done}
use Rattle.plcx_order.proofs.walk.close_places.Goals as goal

all_closed : (a b c : ℕ) (x y : Place) → ((p : ℕ) → x ≡ Open p → p < b) → IsClosedUpTo a b c x y → IsClosed a c x y
all_closed a b c Unseen y below h = h
all_closed a b c (Open p) y below h = (h.0, λ ge. h.1 ge (below p refl))
all_closed a b c (Done d) y below h = h

pub returns : goal.returns
returns c = λ v h. all_closed c.args.first c.loop-p.p c.args.component (get_or c.args.place.now v Unseen) (get_or c.loop-p.place v Unseen) (λ p e. let at = (c.requires.agree.placed v p h e).0 in omega arith) (c.loop-p.invariant v h)
