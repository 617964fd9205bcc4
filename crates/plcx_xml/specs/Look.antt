-- One element, without what its parts have in them.
use Rattle.std.specs.Prelude.{ℕ, List}
use Rattle.plcx_types.specs.declared.span.Span.{Span}
use Rattle.plcx_xml.specs.declared.tree.Attribute.{Attribute}
use Rattle.plcx_xml.specs.declared.tree.Node.{Node}
use Rattle.plcx_xml.specs.declared.tree.Element.{Element, out-Element}

abbrev pub name_of : Element → List ℕ
name_of e = (out-Element e).name

abbrev pub attributes_of : Element → List Attribute
attributes_of e = (out-Element e).attributes

abbrev pub children_of : Element → List Node
children_of e = (out-Element e).children

abbrev pub span_of : Element → Span
span_of e = (out-Element e).span
