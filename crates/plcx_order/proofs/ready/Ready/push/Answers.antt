use Rattle.std.proofs.lemmas.List.Sorted.{IsPermutation-map}
use Rattle.plcx_order.proofs.ready.Ready.push.Goals as goal

pub returns : goal.returns
returns c = rw (← c.self.view_is) (IsPermutation-map (λ r. r.0) _ _ c.in-Ok.ensures.permutation)
