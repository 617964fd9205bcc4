-- Attributes that stand once.
use Rattle.std.proofs.Common.{◌≡◌, List, ℕ, filter_map, refl}
use Rattle.plcx_xml.specs.Look.{attributes_of}
use Rattle.plcx_xml.specs.declared.tree.Element.{Element}
use Rattle.plcx_table.specs.Rules.{at_most_one}
use Rattle.plcx_table.specs.Walk.{values_of, value_under}
use Rattle.plcx_plan.specs.Attributes.{only, value_once}

-- the value of an attribute that stands once, among all attributes
pub once : (name : List ℕ) (e : Element) → value_once name e ≡ only (at_most_one (filter_map (value_under name) (attributes_of e)))
unfolding value_once values_of
once name e = refl
