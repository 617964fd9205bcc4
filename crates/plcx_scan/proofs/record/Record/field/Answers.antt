use Rattle.std.proofs.Common.{sym}
use Rattle.csv.specs.Records.{fields_of}
use Rattle.csv.proofs.RecordFacts.{field-get}
use Rattle.plcx_scan.proofs.Fields.{no_field}
use Rattle.plcx_scan.proofs.record.Record.field.Goals as goal

pub returns-in-Some : goal.returns-in-Some
returns-in-Some c = rw (← c.self.view_is) (sym (field-get (fields_of c.self.inside.row) c.args.i c.in-Some.field.now (sym c.in-Some.ensures.value)))

pub returns-in-None : goal.returns-in-None
returns-in-None c = rw (← c.self.view_is) (sym (no_field (fields_of c.self.inside.row) c.args.i (sym c.in-None.ensures.value)))
