use Rattle.plcx_typing.specs.Sheets.{sheet}
use Rattle.plcx_typing.proofs.Bodies.{marks_are}
use Rattle.plcx_typing.proofs.body.marks_of.Goals as goal

pub returns : goal.returns
returns c =
    let s = sheet c.args.forms.now c.args.pins.now c.args.links.now in
    let flow = c.in_ok-flow.flow in
    marks_are s flow.seeds.items flow.next.items c.in_ok-comes.field-0.items c.in_ok-flow.ensures.flow c.in_ok-flow.ensures.fed c.requires.placed c.in_ok-comes.ensures.count c.in_ok-comes.ensures.comes
