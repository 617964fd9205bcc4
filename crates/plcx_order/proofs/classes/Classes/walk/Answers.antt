use Rattle.std.proofs.Common.{refl, sym, subst, arith}
use Rattle.plcx_model.specs.Shown.{graph_of}
use Rattle.plcx_model.specs.Networks.{Listed}
use Rattle.plcx_order.proofs.OneOrder.{last_listed}
use Rattle.plcx_order.proofs.Spreads.{spread_next}
use Rattle.plcx_order.proofs.classes.Classes.walk.Goals as goal

pub bounds-last-u : goal.bounds-last-u
bounds-last-u c =
    let e = c.in-Some.ensures.items in
    let there : Listed c.loop-u.self.todo.items c.in-Some.u = subst (λ xs. Listed xs c.in-Some.u) (sym e) (last_listed c.pop.new.self.items c.in-Some.u c.in-Some.u refl) in
    omega (arith, (c.loop-u.invariant.spread.current c.in-Some.u there).1, c.requires.last.count)

pub spread-requires-clause-spread : goal.spread-requires-clause-spread
spread-requires-clause-spread c = spread_next (graph_of c.args.wires.now) c.loop-u.self.number.items c.loop-u.self.todo.items c.pop.new.self.items c.loop-u.self.firsts.items c.in-Some.u c.in-Some.ensures.items c.loop-u.invariant.spread
