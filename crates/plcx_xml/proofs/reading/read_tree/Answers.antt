use Rattle.std.proofs.Common.{refl, rules}
use Rattle.plcx_xml.specs.Faults.{Fails}
use Rattle.plcx_xml.proofs.Ending.{stops-fails, cut-fails, end-fails, end-tree}
use Rattle.plcx_xml.proofs.reading.read_tree.Goals as goal

pub returns-in_err-build-clause-fails : goal.returns-in_err-build-clause-fails
returns-in_err-build-clause-fails c =
    let fails : Fails c.args.bytes.now c.in_err-build.field-0.0 = stops-fails _ _ _ _ c.in-Ok.ensures.cases c.front_of-front.ensures c.in_err-build.ensures.stops in
    search rules

pub returns-then-front-bytes-clause-fails : goal.returns-then-front-bytes-clause-fails
returns-then-front-bytes-clause-fails c = cut-fails _ _ _ _ c.in-Ok.ensures.cases c.front_of-front.ensures c.if-front-bytes.true c.in_ok-build.ensures.built

pub returns-in_err-root-clause-fails : goal.returns-in_err-root-clause-fails
returns-in_err-root-clause-fails c =
    let fails : Fails c.args.bytes.now c.in_err-root.field-0.0 = end-fails _ _ _ _ _ c.in-Ok.ensures.cases c.front_of-front.ensures c.if-front-bytes.false c.in_ok-build.ensures.built c.in_err-root.ensures in
    search rules

pub returns-clause-tree : goal.returns-clause-tree
returns-clause-tree c = (c.in_ok-root.root, refl, end-tree _ _ _ _ _ c.in-Ok.ensures.cases c.front_of-front.ensures c.if-front-bytes.false c.in_ok-build.ensures.built c.in_ok-root.ensures)
