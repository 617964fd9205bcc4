-- The rule on constructs that are left out: some elements are by themselves, those of a vendor where they take part in a diagram.
use Rattle.std.specs.Prelude.{ℕ, ◌+◌, Bool, true, false, ◌&&◌, ◌||◌, nat_eq, List, [], ◌∷◌, codes, Option, Some, None}
use Rattle.std.specs.List.{list_any}
use Rattle.std.specs.Str.{bytes_eq}
use Rattle.plcx_xml.specs.declared.tree.Node.{Node, fold-Node}
use Rattle.plcx_xml.specs.declared.tree.Node.TheOpen.{Node-F, Element-F}
use Rattle.plcx_xml.specs.declared.tree.Element.{Element, fold-Element}
use Rattle.plcx_table.specs.declared.row.Row.TheVariants.{Diagram, Connection, RailConnection, Vendor}
use Rattle.plcx_table.specs.declared.row.Fate.{Fate}
use Rattle.plcx_table.specs.declared.row.Fate.TheVariants.{Read, Refused, Skipped}
use Rattle.plcx_table.specs.Number.{number_of}
use Rattle.plcx_table.specs.Walk.{Item, first, values_of}

-- a text, or the empty one where there is none
abbrev pub or_empty : Option (List ℕ) → List ℕ
or_empty None = []
or_empty (Some v) = v

-- a number, or 0 where there is none
abbrev pub or_zero : Option ℕ → ℕ
or_zero None = 0
or_zero (Some n) = n

-- the value of an attribute; it is empty where there is none
unfoldable pub attribute_of : List ℕ → Element → List ℕ
attribute_of name e = or_empty (first (values_of name e))

-- the number that an attribute's value is
unfoldable pub number_at : List ℕ → Element → ℕ
number_at name e = or_zero (number_of (attribute_of name e))

-- the name of a connection point
unfoldable pub is_point : List ℕ → Bool
is_point name = bytes_eq name (codes "connectionPointIn") || bytes_eq name (codes "connectionPointOut")

-- a part of an element, by what is said of the elements in it
abbrev pub node_points : Node-F Bool Bool → Bool
node_points (Node-F.Element points) = points
node_points (Node-F.Text t) = false

-- an element by its name, or by what is said of its parts
abbrev pub element_points : Element-F Bool Bool → Bool
element_points e = is_point e.name || list_any (λ (points : Bool). points) e.children

-- the element is a connection point, or one is in it at any depth
unfoldable pub has_point : Element → Bool
has_point = fold-Element Bool Bool node_points element_points

-- the same of a part of an element
unfoldable pub node_has_point : Node → Bool
node_has_point = fold-Node Bool Bool node_points element_points

-- a number in a diagram
abbrev pub is_pair : ℕ → ℕ → ℕ × ℕ → Bool
is_pair d n k = nat_eq d k.0 && nat_eq n k.1

-- how many diagrams have begun
abbrev pub diagrams_with : Fate → ℕ → ℕ
diagrams_with (Read Diagram) n = n + 1
diagrams_with _ n = n

-- how many diagrams these items begin
abbrev pub diagrams : List Item → ℕ
diagrams [] = 0
diagrams (x ∷ before) = diagrams_with x.fate (diagrams before)

-- the reference goes in front where the element is a connection
abbrev pub with_reference : Fate → ℕ × ℕ → List (ℕ × ℕ) → List (ℕ × ℕ)
with_reference (Read Connection) pair rest = pair ∷ rest
with_reference (Read RailConnection) pair rest = pair ∷ rest
with_reference _ pair rest = rest

-- the localIds that the connections of each diagram name, each with the number of its diagram
unfoldable pub referred : ℕ → List Item → List (ℕ × ℕ)
referred n [] = []
referred n (x ∷ xs) = with_reference x.fate (n, number_at (codes "refLocalId") x.element) (referred (diagrams_with x.fate n) xs)

-- a vendor's element takes part where it has a connection point, or a connection of its diagram names it
abbrev pub takes_part : List (ℕ × ℕ) → ℕ → Element → Bool
takes_part references diagram e = has_point e || list_any (is_pair diagram (number_at (codes "localId") e)) references

-- an element is refused by the table, or is a vendor's and takes part
abbrev pub is_left_out : List (ℕ × ℕ) → ℕ → Fate → Element → Bool
is_left_out references diagram (Refused row) e = true
is_left_out references diagram (Skipped Vendor) e = takes_part references diagram e
is_left_out references diagram _ e = false

-- an element of a file with these references is left out
abbrev pub breaks_constructs : List (ℕ × ℕ) → List Item → Item → Bool
breaks_constructs references before x = is_left_out references (diagrams before) x.fate x.element
