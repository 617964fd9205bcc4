use Rattle.std.proofs.Common.{◌≡◌, List, map, rules, sym, ap, ◌∙◌, subst}
use Rattle.std.proofs.lemmas.List.{map-id}
use Rattle.std.proofs.lemmas.Iterator.Adapters.{YieldsList-from_vec}
use Rattle.std.proofs.lemmas.Iterator.Consumers.{YieldsList-end}
use Rattle.plcx_steps.specs.declared.program.Body.{Body}
use Rattle.plcx_bodies.specs.Framed.{framed, AreStarts, AreFramed}
use Rattle.plcx_bodies.proofs.Levels.{bodies_stand}
use Rattle.plcx_bodies.proofs.frames.with_frames.Goals as goal

pub returns : goal.returns
returns c =
    let bodies = c.args.bodies.items in
    let starts = c.in_ok-starts.starts.items in
    let end = YieldsList-end (YieldsList-from_vec {s = c.into_iter-body-iterator.result} bodies (search rules) (search rules)) c.loop-body.yielded c.loop-body.body-iterator c.loop-body.yielded_by c.next.result c.next.new.self c.in-None.is c.next.ensures.steps in
    let all : c.loop-body.yielded ≡ bodies = sym (map-id c.loop-body.yielded) ∙ end.0 in
    let is : c.loop-body.all.items ≡ map (framed starts) bodies = c.loop-body.invariant ∙ ap (map (framed starts)) all in
    let are : AreStarts bodies starts = subst (λ (xs : List Body). AreStarts xs starts) c.deref.ensures.value c.in_ok-starts.ensures in
    subst (AreFramed bodies) (sym is) (bodies_stand bodies starts are)
