use Rattle.std.proofs.Common.{◌<◌, ℕ, length, get_or}
use Rattle.plcx_order.specs.Walks.{IsClosedUpTo}
use Rattle.plcx_order.specs.declared.walk.Place.TheVariants.{Unseen}
use Rattle.plcx_order.proofs.walk.close_places.Given as goal

abbrev pub invariant-loop-p : goal.invariant-loop-p
invariant-loop-p l = (v : ℕ) → v < length l.fn.place → IsClosedUpTo l.first l.p l.component (get_or l.fn.place v Unseen) (get_or l.place v Unseen)
