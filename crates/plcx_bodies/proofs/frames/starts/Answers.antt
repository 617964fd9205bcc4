use Rattle.std.proofs.Common.{◌≡◌, ◌+◌, ◌<◌, ◌∷◌, ◌++◌, [], List, length, length-append, arith, ap, sym, subst, ◌∙◌}
use Rattle.std.specs.Prelude.{slice_get}
use Rattle.plcx_types.specs.Lists.{Each}
use Rattle.plcx_meaning.proofs.Lists.{each_weaker}
use Rattle.plcx_steps.specs.declared.program.Body.{Body}
use Rattle.plcx_bodies.specs.declared.frames.Start.{Start}
use Rattle.plcx_bodies.specs.Framed.{IsBelow, EndsBefore}
use Rattle.plcx_bodies.proofs.Levels.{starts_more, there_last}
use Rattle.plcx_bodies.proofs.frames.starts.Goals as goal

pub loop-level-preserved : goal.loop-level-preserved
loop-level-preserved c =
    let ss = c.loop-level.starts.items in
    let next = c.in_ok-last.last in
    let items : c.push-in-loop-level.new.self.items ≡ ss ++ next ∷ [] = c.in_ok-push-2.ensures.items in
    let long = c.loop-level.invariant.long in
    let longer = length-append ss (next ∷ []) in
    let more = ap length items in
    record {
      long = omega arith;
      last = ap (λ (xs : List Start). slice_get xs (c.loop-level.level + 1)) items ∙ there_last ss next (c.loop-level.level + 1) (sym long);
      before = subst (λ (xs : List Start). Each (EndsBefore xs) c.args.bodies.now) (sym items)
          (starts_more ss c.loop-level.level c.loop-level.last c.room.result next long c.loop-level.invariant.last c.in_ok-last.ensures.0 c.in_ok-last.ensures.1 c.args.bodies.now c.room.ensures c.loop-level.invariant.before);
    }

pub returns : goal.returns
returns c =
    let ss = c.loop-level.starts.items in
    let long = c.loop-level.invariant.long in
    let done = c.loop-level-test.false in
    record {
      all = each_weaker (IsBelow c.highest-highest.result) (λ (b : Body). b.level < length ss) c.args.bodies.now (λ b h. omega arith) c.highest-highest.ensures;
      before = c.loop-level.invariant.before;
    }
