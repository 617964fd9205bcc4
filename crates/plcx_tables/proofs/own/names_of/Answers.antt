use Rattle.plcx_tables.specs.Named.{NamesTold}
use Rattle.plcx_tables.specs.Owned.{variable_name}
use Rattle.plcx_tables.proofs.Walks.{step_at}
use Rattle.plcx_tables.proofs.own.names_of.Goals as goal

pub loop-variable-preserved : goal.loop-variable-preserved
loop-variable-preserved c =
    let after = c.in_ok-names.names in
    step_at (NamesTold after.numbers.entries after.count) variable_name c.args.variables.now c.loop-variable.variable-index _ c.loop-variable-test.true (c.in_ok-names.ensures _ c.loop-variable.invariant)
