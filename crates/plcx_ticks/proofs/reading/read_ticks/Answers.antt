use Rattle.std.proofs.Common.{◌≡◌, ◌≤◌, List, length, subst, rules}
use Rattle.std.specs.declared.result.Result.TheVariants.{Err}
use Rattle.plcx_types.specs.Lists.{Each}
use Rattle.plcx_scan.specs.Files.{Record, records_of}
use Rattle.plcx_ticks.specs.ReadTicks.{IsTable}
use Rattle.plcx_ticks.proofs.Tables.{plain_tables}
use Rattle.plcx_ticks.proofs.TickFiles.{read_as, why_as, records_sound, records_wrong}
use Rattle.plcx_ticks.proofs.reading.read_ticks.Goals as goal

pub returns-clause-ok : goal.returns-clause-ok
returns-clause-ok c =
    let leaves = c.in_ok-tables.ensures.leaves in
    let tables = subst (Each IsTable) leaves c.in_ok-tables.ensures.tables in
    let read = read_as _ _ _ _ c.as_slice.ensures c.deref.ensures.value leaves c.of-records.ensures c.in_ok-read_records.ensures.ok in
    record {
      some = subst (λ (rows : List Record). 1 ≤ length rows) c.of-records.ensures c.in_ok-read_records.ensures.some;
      stands = (records_sound c.args.plan.now.instances c.args.layouts.now tables (records_of c.args.bytes.now) c.in_ok-read_records.field-0.items read).0;
    }

pub returns-clause-follow : goal.returns-clause-follow
returns-clause-follow c =
    let leaves = c.in_ok-tables.ensures.leaves in
    let tables = subst (Each IsTable) leaves c.in_ok-tables.ensures.tables in
    let read = read_as _ _ _ _ c.as_slice.ensures c.deref.ensures.value leaves c.of-records.ensures c.in_ok-read_records.ensures.ok in
    (records_sound c.args.plan.now.instances c.args.layouts.now tables (records_of c.args.bytes.now) c.in_ok-read_records.field-0.items read).1

pub returns-clause-plain : goal.returns-clause-plain
returns-clause-plain c = plain_tables c.args.layouts.now (subst (Each IsTable) c.in_ok-tables.ensures.leaves c.in_ok-tables.ensures.tables)

pub returns-in_err-read_records-clause-err : goal.returns-in_err-read_records-clause-err
returns-in_err-read_records-clause-err c =
    let leaves = c.in_ok-tables.ensures.leaves in
    let tables = subst (Each IsTable) leaves c.in_ok-tables.ensures.tables in
    let e = c.in_err-read_records.field-0.0 in
    let same : c.from_residual-in_err-read_records.result ≡ Err c.in_err-read_records.field-0.0 = search rules in
    rw same
    (records_wrong c.args.plan.now.instances c.args.layouts.now tables c.requires.names (records_of c.args.bytes.now) e
    (why_as _ _ _ _ c.as_slice.ensures c.deref.ensures.value leaves c.of-records.ensures e c.in_err-read_records.ensures.err))
