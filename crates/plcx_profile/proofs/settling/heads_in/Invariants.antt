use Rattle.std.proofs.Common.{◌≡◌, ◌++◌, drop, map, true}
use Rattle.std.specs.List.{list_all}
use Rattle.plcx_profile.specs.Fine.{is_fine_pou}
use Rattle.plcx_profile.specs.Heads.{head_of}
use Rattle.plcx_profile.proofs.settling.heads_in.Given as goal

abbrev pub invariant-loop-pou : goal.invariant-loop-pou
invariant-loop-pou l = record {
  made : l.all.items ++ map (head_of l.blocks) (drop l.pou-index l.pous) ≡ map (head_of l.blocks) l.pous;
  fine : list_all is_fine_pou (drop l.pou-index l.pous) ≡ true;
}
