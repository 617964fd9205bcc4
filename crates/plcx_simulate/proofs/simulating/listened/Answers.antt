use Rattle.std.proofs.Common.{Ok, Err}
use Rattle.std.specs.Prelude.{Result, IfOk, IfErr}
use Rattle.std.proofs.lemmas.Result.{IfErr-weaker, IfOk-weaker}
use Rattle.plcx_simulate.proofs.Listened.{listened_trace, same_after, same_stopped, stops_watched}
use Rattle.plcx_simulate.proofs.simulating.listened.Goals as goal

-- a result that there is, or that there is not
same_in : {A E : Type 0} (res : Result A E) (P : A → Type 0) (Q : E → Type 0) (R : Type 0) → ((x : A) → P x → R) → ((e : E) → Q e → R) → IfOk res P → IfErr res Q → R
same_in (Ok x) P Q R f h p q = f x p
same_in (Err e) P Q R f h p q = h e q

pub returns-clause-same_watch : goal.returns-clause-same_watch
returns-clause-same_watch g c =
    let stands = c.requires.stands in
    let after = same_after g.W.Watch.told c.args.side.now c.traced.new.side c.args.run.now.turns c.watch_is_told.ensures c.heard_in_order.ensures stands.0 stands.1 in
    let stopped = same_stopped g.W.Watch.told c.args.side.now c.traced.new.side c.args.run.now.turns c.watch_is_told.ensures c.heard_in_order.ensures stands.0 stands.1 in
    same_in c.traced.result _ _ _ (λ text t. after _ text.items t) (λ e t. stopped _ e t) c.traced.ensures.ok c.traced.ensures.stops

pub returns-clause-ok : goal.returns-clause-ok
returns-clause-ok g c =
    IfOk-weaker c.traced.result _ _ (λ text t. listened_trace g.W.Watch.told c.args.side.now c.traced.new.side c.args.run.now.turns c.watch_is_told.ensures c.heard_in_order.ensures _ text.items t) c.traced.ensures.ok

pub returns-clause-stops : goal.returns-clause-stops
returns-clause-stops g c =
    IfErr-weaker c.traced.result _ _ (λ e t. stops_watched g.W.Watch.told c.args.side.now c.traced.new.side c.args.run.now.turns c.watch_is_told.ensures c.heard_in_order.ensures _ e t) c.traced.ensures.stops
