use Rattle.std.proofs.Common.{◌∙◌, refl, arith}
use Rattle.plcx_text_program.proofs.Bare.{level_is, leaves_are, in_outs_are}
use Rattle.plcx_text_program.proofs.bodies.bare.Goals as goal

pub returns : goal.returns
returns c = λ p there.
    let pous = c.args.tables.now in
    let table = c.table_there-table.result.now in
    let long = table.in_outs.ok.0 in
    let wires = c.args.entry.now.wires.ok.0 in
    let leaves = leaves_are pous c.requires.ready c.args.place p there table c.table_there-table.ensures in
    let in_outs = in_outs_are pous c.requires.ready c.args.place p there table c.table_there-table.ensures in
    let counted = c.len.ensures in
    let wide = c.len-2.ensures in
    record {
      level = c.level.ensures ∙ level_is pous c.requires.ready c.args.place p there;
      leaves = leaves;
      memories = refl;
      in_outs = omega arith;
      width = omega arith;
    }
