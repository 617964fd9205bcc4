-- Rules that look at one element: the first that breaks one.
use Rattle.std.proofs.Common.{◌≡◌, ℕ, List, [], option_map, sym, ap}
use Rattle.plcx_model.specs.Verdict.{first_breaking}
use Rattle.plcx_model.proofs.Judging.{as-find}
use Rattle.plcx_table.specs.declared.row.FormatRule.TheVariants.{Structure, Attributes}
use Rattle.plcx_table.specs.Flat.{first_place}
use Rattle.plcx_table.specs.Format.{breaks, place_of}
use Rattle.plcx_table.specs.Rules.{breaks_structure, breaks_attributes}
use Rattle.plcx_table.specs.Walk.{Item}

pub as_structure : (namespace : List ℕ) (all items : List Item) → first_place (λ (x : Item). breaks_structure x.fate x.element) items ≡ option_map (place_of Structure) (first_breaking (breaks namespace all Structure) [] items)
unfolding breaks
as_structure namespace all items = ap (option_map (place_of Structure)) (sym (as-find (λ (x : Item). breaks_structure x.fate x.element) [] items))

pub as_attributes : (namespace : List ℕ) (all items : List Item) → first_place (λ (x : Item). breaks_attributes namespace x.fate x.element) items ≡ option_map (place_of Attributes) (first_breaking (breaks namespace all Attributes) [] items)
unfolding breaks
as_attributes namespace all items = ap (option_map (place_of Attributes)) (sym (as-find (λ (x : Item). breaks_attributes namespace x.fate x.element) [] items))
