-- The children of an element that are read, and the text in it.
use Rattle.std.specs.Prelude.{ℕ, List, [], Option, Some, None, filter_map, if◌then◌else◌}
use Rattle.std.specs.Str.{bytes_eq}
use Rattle.plcx_xml.specs.Look.{name_of, children_of}
use Rattle.plcx_xml.specs.declared.tree.Node.{Node, out-Node}
use Rattle.plcx_xml.specs.declared.tree.Node.TheOpen.{Node-F}
use Rattle.plcx_xml.specs.declared.tree.Element.{Element}
use Rattle.plcx_table.specs.Walk.{first}
use Rattle.plcx_table.specs.Constructs.{or_empty}

-- what a part of an element is read as; text is nothing
abbrev pub part_in : {A : Type 0} → (Element → Option A) → Node-F Node Element → Option A
part_in part (Node-F.Element e) = part e
part_in part (Node-F.Text t) = None

-- the children that are such parts, in their order
unfoldable pub parts_of : {A : Type 0} → (Element → Option A) → Element → List A
parts_of part e = filter_map (λ (n : Node). part_in part (out-Node n)) (children_of e)

-- the same, if the element is there
abbrev pub parts_in : {A : Type 0} → (Element → Option A) → Option Element → List A
parts_in part None = []
parts_in part (Some e) = parts_of part e

-- the first child that is such a part
unfoldable pub first_part : {A : Type 0} → (Element → Option A) → Element → Option A
first_part part e = first (parts_of part e)

-- the element itself, if it has the name
abbrev pub named : List ℕ → Element → Option Element
named name e = if bytes_eq (name_of e) name then Some e else None

-- the first child of a name
unfoldable pub first_child : List ℕ → Element → Option Element
first_child name e = first_part (named name) e

-- the text of a part that is text
abbrev pub text_in : Node-F Node Element → Option (List ℕ)
text_in (Node-F.Element e) = None
text_in (Node-F.Text t) = Some t.value

-- its first text; it is empty where there is none
unfoldable pub text_of : Element → List ℕ
text_of e = or_empty (first (filter_map (λ (n : Node). text_in (out-Node n)) (children_of e)))

-- the text of an element, if it is there
abbrev pub text_in_some : Option Element → List ℕ
text_in_some None = []
text_in_some (Some e) = text_of e

-- the text of the first child of a name
unfoldable pub text_under : List ℕ → Element → List ℕ
text_under name e = text_in_some (first_child name e)
