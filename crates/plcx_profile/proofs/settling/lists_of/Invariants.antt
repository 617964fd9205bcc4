use Rattle.std.proofs.Common.{◌≡◌, ◌++◌, drop, map, true}
use Rattle.std.specs.List.{list_all}
use Rattle.plcx_profile.specs.Fine.{is_fine_list}
use Rattle.plcx_profile.specs.ProjectIn.{list_of}
use Rattle.plcx_profile.proofs.settling.lists_of.Given as goal

abbrev pub invariant-loop-list : goal.invariant-loop-list
invariant-loop-list l = record {
  made : l.all.items ++ map (list_of l.blocks) (drop l.list-index l.lists) ≡ map (list_of l.blocks) l.lists;
  fine : list_all is_fine_list (drop l.list-index l.lists) ≡ true;
}
