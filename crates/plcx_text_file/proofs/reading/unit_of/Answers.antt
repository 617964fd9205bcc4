use Rattle.std.proofs.Common.{sym, subst}
use Rattle.plcx_text_file.specs.Refusals.{RefusesBytes}
use Rattle.plcx_text_file.proofs.Refused.{refused_reading, refused_unit}
use Rattle.plcx_text_file.proofs.reading.unit_of.Goals as goal

pub returns-in-Err-resolve-clause-refused : goal.returns-in-Err-resolve-clause-refused
returns-in-Err-resolve-clause-refused c =
    let found = c.in-Ok.ensures.found in
    subst (RefusesBytes c.args.bytes.now) (sym c.of_unit.ensures) (refused_unit c.args.bytes.now c.in-Ok.unit found.0 c.in-Err-resolve.error.fault found.1 found.2 c.in-Err-resolve.ensures.refused)

pub returns-in-Err-clause-refused : goal.returns-in-Err-clause-refused
returns-in-Err-clause-refused c = subst (RefusesBytes c.args.bytes.now) (sym c.of_reading.ensures) (refused_reading c.args.bytes.now c.in-Err.error c.in-Err.ensures.fails)
