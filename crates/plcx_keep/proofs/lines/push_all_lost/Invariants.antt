use Rattle.std.proofs.Common.{◌≡◌, ◌++◌, take}
use Rattle.plcx_keep.specs.Texts.{lost_text}
use Rattle.plcx_keep.proofs.lines.push_all_lost.Given as goal

abbrev pub invariant-loop-lost : goal.invariant-loop-lost
invariant-loop-lost l = l.text.items ≡ l.initial.text.items ++ lost_text l.leaves (take l.lost-index l.all)
