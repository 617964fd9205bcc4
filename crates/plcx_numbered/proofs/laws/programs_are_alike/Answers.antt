use Rattle.std.proofs.Common.{◌≡◌, ℕ, zero, suc, ◌<◌, List, [], ◌∷◌, map, Some, ap}
use Rattle.std.specs.Prelude.{slice_get}
use Rattle.std.specs.List.{Contains}
use Rattle.plcx_meaning.specs.Tree as tree
use Rattle.plcx_meaning.proofs.Lists.{each_at}
use Rattle.plcx_numbered.specs.Agreeing.{IsApart}
use Rattle.plcx_numbered.specs.Right.{Plan}
use Rattle.plcx_numbered.specs.Numbers.{plan_of, plans_of}
use Rattle.plcx_numbered.proofs.Numbers.{there_at}
use Rattle.plcx_numbered.proofs.Holding.{lies_whole}
use Rattle.plcx_numbered.proofs.Bodies.{program_alike}
use Rattle.plcx_numbered.proofs.Programs.{program_right, plans_low, programs_free}
use Rattle.plcx_numbered.proofs.Cells.{plans_apart}
use Rattle.plcx_numbered.proofs.laws.programs_are_alike.Goals as goal

mapped_at : {A B : Type 0} (f : A → B) (xs : List A) (k : ℕ) (x : A) → slice_get xs k ≡ Some x → slice_get (map f xs) k ≡ Some (f x)
mapped_at f [] k x h = absurd (cc)
mapped_at f (y ∷ ys) zero x h = let e : y ≡ x = cc in ap (λ z. Some (f z)) e
mapped_at f (y ∷ ys) (suc k) x h = mapped_at f ys k x h

pub returns : goal.returns
returns g c = λ project program fits is k p at kind begun time d n a.
    let is_plan = mapped_at (plan_of project) project k p at in
    let there : Contains (plans_of project) (plan_of project p) = there_at (plans_of project) k (plan_of project p) is_plan in
    let apart : IsApart (plan_of project p).shape = each_at (λ (q : Plan). IsApart q.shape) (plans_of project) (plan_of project p) (plans_apart project fits) there in
    program_alike (plan_of project p).shape apart g.W.Watch.told begun time project (plans_of project) program (program_right project fits program is) (plan_of project p) k is_plan
    (each_at (λ (q : Plan). q.level < 17) (plans_of project) (plan_of project p) (plans_low project fits) there)
    (each_at (λ (q : Plan). q.pou.kind ≡ tree.Program → q.in_outs ≡ []) (plans_of project) (plan_of project p) (programs_free project fits) there kind)
    (lies_whole (plan_of project p).shape) d n a
