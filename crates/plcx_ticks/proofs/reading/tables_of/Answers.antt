use Rattle.std.proofs.Common.{◌∙◌, sym, subst}
use Rattle.plcx_types.specs.Lists.{Each}
use Rattle.plcx_ticks.specs.ReadTicks.{IsTable}
use Rattle.plcx_ticks.proofs.Tables.{leaves_more, leaves_all, tables_more}
use Rattle.plcx_ticks.proofs.reading.tables_of.Goals as goal

pub loop-layout-preserved : goal.loop-layout-preserved
loop-layout-preserved c =
    let was = c.loop-layout.invariant in
    let made = c.in_ok-of.ensures in
    let pushed = c.in_ok-push.ensures.items in
    record {
      leaves = pushed ∙ leaves_more c.args.layouts.now c.loop-layout.layout-index c.layout-item.result c.in_ok-of.field-0 c.loop-layout.tables.items c.loop-layout-test.true c.layout-item.is made.leaves was.leaves;
      tables = subst (Each IsTable) (sym pushed) (tables_more c.loop-layout.tables.items c.in_ok-of.field-0 c.layout-item.result made.leaves made.laid made.told was.tables);
    }

pub returns-clause-leaves : goal.returns-clause-leaves
returns-clause-leaves c = leaves_all c.args.layouts.now c.loop-layout.layout-index c.loop-layout.tables.items c.loop-layout-test.false c.loop-layout.invariant.leaves
