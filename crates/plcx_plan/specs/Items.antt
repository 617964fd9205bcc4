-- What is looked at in a file: elements in document order, each with what it is among the tasks.
use Rattle.std.specs.Prelude.{ℕ, suc, zero, Bool, true, false, ◌&&◌, List, [], ◌∷◌, ◌++◌, codes, map, filter, if◌then◌else◌}
use Rattle.std.specs.List.{list_any}
use Rattle.std.specs.Str.{bytes_eq}
use Rattle.plcx_types.specs.Limits.{max_element_depth}
use Rattle.plcx_xml.specs.Look.{name_of, children_of}
use Rattle.plcx_xml.specs.declared.tree.Node.{Node, out-Node}
use Rattle.plcx_xml.specs.declared.tree.Node.TheOpen.{Node-F}
use Rattle.plcx_xml.specs.declared.tree.Element.{Element}
use Rattle.plcx_plan.specs.declared.condition.Role.{Role}
use Rattle.plcx_plan.specs.declared.condition.Role.TheVariants as role

-- an element, and what it is
pub record Item : Type 0 where
  pub role : Role
  pub element : Element

-- tasks stand in a resource, and instances in a task
abbrev pub role_below : Role → List ℕ → Role
role_below role.Resource name = if bytes_eq name (codes "task") then role.Task else role.Other
role_below role.Task name = if bytes_eq name (codes "pouInstance") then role.Instance else role.Other
role_below _ name = role.Other

-- what an element is below another one; a resource may stand anywhere
abbrev pub role_of : Role → Element → Role
role_of above e = if bytes_eq (name_of e) (codes "resource") then role.Resource else role_below above (name_of e)

-- what is looked at in a part of an element
abbrev pub at_node : (Role → Element → List Item) → Role → Node-F Node Element → List Item
at_node inner above (Node-F.Element e) = inner (role_of above e) e
at_node inner above (Node-F.Text t) = []

-- in its parts, one behind the other
unfoldable pub items_below : (Role → Element → List Item) → Role → List Node → List Item
items_below inner above [] = []
items_below inner above (n ∷ ns) = at_node inner above (out-Node n) ++ items_below inner above ns

-- an element and what stands in it, at most so deep
unfoldable pub items : ℕ → Role → Element → List Item
items zero r e = []
items (suc n) r e = record { role = r; element = e } ∷ items_below (items n) r (children_of e)

-- what is looked at in a section of a file: the one of the instances counts
abbrev pub at_section : Node-F Node Element → List Item
at_section (Node-F.Element e) = if bytes_eq (name_of e) (codes "instances") then items max_element_depth role.Other e else []
at_section (Node-F.Text t) = []

-- in the sections of a file, one behind the other
unfoldable pub in_sections : List Node → List Item
in_sections [] = []
in_sections (n ∷ ns) = at_section (out-Node n) ++ in_sections ns

-- the root of a file, and all that is looked at in it
unfoldable pub items_in : Element → List Item
items_in root = record { role = role.Root; element = root } ∷ in_sections (children_of root)

-- both are one
abbrev pub same_role : Role → Role → Bool
same_role role.Root role.Root = true
same_role role.Resource role.Resource = true
same_role role.Task role.Task = true
same_role role.Instance role.Instance = true
same_role role.Other role.Other = true
same_role _ _ = false

-- the elements that are this
abbrev pub elements : Role → List Item → List Element
elements r xs = map (λ (x : Item). x.element) (filter (λ (x : Item). same_role x.role r) xs)

-- a part of an element is an element of this name
abbrev pub is_element : List ℕ → Node-F Node Element → Bool
is_element name (Node-F.Element e) = bytes_eq (name_of e) name
is_element name (Node-F.Text t) = false

-- a part of a resource is a task with an instance
abbrev pub is_task_with : Node-F Node Element → Bool
is_task_with (Node-F.Element e) = bytes_eq (name_of e) (codes "task") && list_any (λ (n : Node). is_element (codes "pouInstance") (out-Node n)) (children_of e)
is_task_with (Node-F.Text t) = false

-- a task of the resource has an instance
unfoldable pub has_instance : Element → Bool
has_instance e = list_any (λ (n : Node). is_task_with (out-Node n)) (children_of e)
