use Rattle.std.proofs.Common.{◌++◌, List, map, ap, ◌∙◌}
use Rattle.std.proofs.lemmas.List.{take_all}
use Rattle.plcx_model.specs.declared.project.Variable.{Variable}
use Rattle.plcx_view.specs.Declared.{mark_of}
use Rattle.plcx_tables.specs.Telling.{Told, shown}
use Rattle.plcx_tables.proofs.Walks.{grown}
use Rattle.plcx_tables.proofs.Listed.{told_in, of_list}
use Rattle.plcx_tables.proofs.own.with_list.Goals as goal

pub loop-one-preserved : goal.loop-one-preserved
loop-one-preserved c = λ project named.
    let list = c.args.list.now in
    grown shown (told_in project c.args.pous.now list) (map shown c.args.all.items) c.variables-one-items.result.now c.loop-one.one-index c.one-item.result c.loop-one.all.items c.push.new.self.items c.variable_of.result
    c.loop-one-test.true c.one-item.is c.in_ok-push.ensures.items (c.variable_of.ensures project (mark_of list) named) (c.loop-one.invariant project named)

pub returns : goal.returns
returns c = λ project named.
    let f = told_in project c.args.pous.now c.args.list.now in
    c.loop-one.invariant project named
    ∙ ap (λ (vs : List Variable). map shown c.args.all.items ++ map f vs) (take_all c.loop-one.one-index c.variables-one-items.result.now c.loop-one-test.false ∙ c.variables-one-items.ensures)
    ∙ ap (λ (ts : List Told). map shown c.args.all.items ++ ts) (of_list project c.args.pous.now c.args.list.now)
