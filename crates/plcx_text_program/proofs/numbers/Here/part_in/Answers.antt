use Rattle.std.proofs.Common.{map}
use Rattle.plcx_st.specs.Meant.{pou_meant}
use Rattle.plcx_text_program.proofs.Leading.{standard_part}
use Rattle.plcx_text_program.proofs.numbers.Here.part_in.Goals as goal

pub returns-in_ok-part_in_pins-in-Standard : goal.returns-in_ok-part_in_pins-in-Standard
returns-in_ok-part_in_pins-in-Standard c =
    let unit = map pou_meant c.args.self.now.tables.now in
    rw c.in-Standard.is (standard_part unit c.in-Standard.kind c.args.name.now c.pins.result.now _ c.pins.ensures (c.in_ok-part_in_pins-in-Standard.ensures unit))
