use Rattle.std.proofs.Common.{◌≡◌, ◌++◌, map, drop}
use Rattle.std.specs.List.{flat_map}
use Rattle.plcx_types.specs.Lists.{Each}
use Rattle.plcx_meaning.specs.Templates.{list_text}
use Rattle.plcx_view.specs.Declared.{list_of}
use Rattle.plcx_declare.specs.Named.{BlockIsNamed}
use Rattle.plcx_st.specs.Meant.{block_meant}
use Rattle.plcx_declare.proofs.declaring.list_blocks.Given as goal

-- the blocks so far, and those of the lists that are left
abbrev pub invariant-loop-list : goal.invariant-loop-list
invariant-loop-list l = record {
  made : map block_meant l.blocks.items ++ flat_map list_text (map (list_of l.pous) (drop l.list-index l.list-items)) ≡ flat_map list_text (map (list_of l.pous) l.list-items);
  range : Each BlockIsNamed (flat_map list_text (map (list_of l.pous) (drop l.list-index l.list-items)));
}
