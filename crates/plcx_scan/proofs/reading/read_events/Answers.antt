use Rattle.std.proofs.Common.{◌≤◌, List, length, subst}
use Rattle.plcx_state.specs.declared.layout.Leaf.{Leaf}
use Rattle.plcx_state.specs.Layouts.{all_meant}
use Rattle.plcx_scan.specs.Events.{meant_events}
use Rattle.plcx_scan.specs.Files.{Record, RecordsStandFor}
use Rattle.plcx_scan.proofs.reading.read_events.Goals as goal

pub returns-clause-ok : goal.returns-clause-ok
returns-clause-ok c =
    let read = c.in_ok-read_records in
    let leaves = c.args.layout.now.leaves in
    record {
      some = subst (λ (rows : List Record). 1 ≤ length rows) c.of-records.ensures read.ensures.some;
      stands = subst (λ (rows : List Record). RecordsStandFor (all_meant leaves) rows (meant_events leaves read.field-0)) c.of-records.ensures
          (subst (λ (ls : List Leaf). RecordsStandFor (all_meant ls) c.of-records.result (meant_events ls read.field-0)) c.in_ok-table.ensures.leaves read.ensures.ok);
    }
