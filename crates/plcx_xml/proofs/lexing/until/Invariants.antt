use Rattle.std.proofs.Common.{◌≡◌, take, drop}
use Rattle.plcx_xml.specs.Grammar.{until}
use Rattle.plcx_xml.proofs.Enclosing.{ahead}
use Rattle.plcx_xml.proofs.lexing.until.Given as goal

abbrev pub invariant-loop-at : goal.invariant-loop-at
invariant-loop-at l = until l.close l.bytes ≡ ahead (take l.at l.bytes) (until l.close (drop l.at l.bytes))
