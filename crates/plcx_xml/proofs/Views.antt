-- What a node or an element is made of, and its events.
use Rattle.std.proofs.Common.{◌≡◌, ℕ, List, [], ◌∷◌, ◌++◌, map, refl, ap, sym, ◌∙◌}
use Rattle.std.specs.List.{flat_map}
use Rattle.plcx_xml.specs.Events.{Event, Begin, End, Chars, events_of, events_of_element, node_events, element_events}
use Rattle.plcx_xml.specs.declared.tree.Attribute.{Attribute}
use Rattle.plcx_xml.specs.declared.tree.Text.{Text}
use Rattle.plcx_xml.specs.declared.tree.Node.{Node, fold-Node, fold-roll-Node, ind-Node, roll-Node}
use Rattle.plcx_xml.specs.declared.tree.Node.TheOpen.{Node-F, Element-F}
use Rattle.plcx_xml.specs.declared.tree.Node.TheVariants as node
use Rattle.plcx_xml.specs.declared.tree.Node.TheVariants.{rolls-Element, rolls-Text}
use Rattle.plcx_xml.specs.declared.tree.Element.{Element, roll-Element, fold-roll-Element, ind-Element}

abbrev pub around : List ℕ → List Attribute → ℕ → ℕ → List Node → List Event
around name attributes start end children = Begin name attributes start ∷ (flat_map (λ (es : List Event). es) (map events_of children) ++ End name end ∷ [])

pub node-element : (e : Element) → events_of (roll-Node (Node-F.Element e)) ≡ events_of_element e
node-element e = fold-roll-Node (List Event) (List Event) node_events element_events (Node-F.Element e)

pub node-text : (t : Text) → events_of (roll-Node (Node-F.Text t)) ≡ Chars t.value t.span ∷ []
node-text t = fold-roll-Node (List Event) (List Event) node_events element_events (Node-F.Text t)

pub element-around : (x : Element-F Node Element) → events_of_element (roll-Element x) ≡ around x.name x.attributes x.span.start x.span.end x.children
element-around x = fold-roll-Element (List Event) (List Event) node_events element_events x

-- what a node or an element is made of
pub view-node : (n : Node) → (x : Node-F Node Element) × (n ≡ roll-Node x)
view-node = ind-Node (λ n. (x : Node-F Node Element) × (n ≡ roll-Node x)) (λ e. (x : Element-F Node Element) × (e ≡ roll-Element x)) (λ x y is. (x, refl)) (λ x y is. (x, refl))

pub view-element : (e : Element) → (x : Element-F Node Element) × (e ≡ roll-Element x)
view-element = ind-Element (λ n. (x : Node-F Node Element) × (n ≡ roll-Node x)) (λ e. (x : Element-F Node Element) × (e ≡ roll-Element x)) (λ x y is. (x, refl)) (λ x y is. (x, refl))

pub text-events : (t : Text) → events_of (node.Text t) ≡ Chars t.value t.span ∷ []
text-events t = ap (fold-Node (List Event) (List Event) node_events element_events) (sym (rolls-Text _)) ∙ node-text t

pub child-events : (e : Element) → events_of (node.Element e) ≡ events_of_element e
child-events e = ap (fold-Node (List Event) (List Event) node_events element_events) (sym (rolls-Element _)) ∙ node-element e
