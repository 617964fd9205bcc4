-- Trees that break no rule on their form or on what they declare.
use Rattle.std.specs.Prelude.{None}
use Rattle.plcx_xml.specs.declared.tree.Node.{Node}
use Rattle.plcx_xml.specs.declared.tree.Node.TheOpen.{Node-F}
use Rattle.plcx_xml.specs.declared.tree.Element.{Element}
use Rattle.plcx_profile.specs.Profile.{ProfileVerdict}

-- an element that breaks none
abbrev pub IsUnbroken : Node-F Node Element → Type 0
IsUnbroken (Node-F.Element e) = ProfileVerdict e None
IsUnbroken (Node-F.Text t) = ⊥
