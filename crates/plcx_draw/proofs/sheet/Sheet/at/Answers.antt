use Rattle.plcx_draw.specs.Known.{shown_known, looked_up}
use Rattle.plcx_draw.proofs.SheetLaws.{at_place}
use Rattle.plcx_draw.proofs.sheet.Sheet.at.Goals as goal

pub returns : goal.returns
returns c =
    let own = c.args.self.now in
    at_place shown_known (looked_up own.pous own.pou) c.known.result.now own.pou.body.elements c.args.place c.at.result c.at.ensures c.known.ensures
