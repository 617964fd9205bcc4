-- What begins and ends in a tree, and in a list of tokens. An empty tag begins and ends an element.
use Rattle.std.specs.Prelude.{ℕ, ◌+◌, max, List, [], ◌∷◌, ◌++◌, fold}
use Rattle.std.specs.List.{flat_map}
use Rattle.plcx_types.specs.declared.span.Span.{Span}
use Rattle.plcx_xml.specs.declared.token.Kind.{Kind}
use Rattle.plcx_xml.specs.declared.token.Kind.TheVariants as kind
use Rattle.plcx_xml.specs.declared.token.Token.{Token}
use Rattle.plcx_xml.specs.declared.tree.Attribute.{Attribute}
use Rattle.plcx_xml.specs.declared.tree.Node.{Node, fold-Node}
use Rattle.plcx_xml.specs.declared.tree.Node.TheOpen.{Node-F, Element-F}
use Rattle.plcx_xml.specs.declared.tree.Element.{Element, fold-Element}

pub data Event : Type 0 where
  Begin : List ℕ → List Attribute → ℕ → Event
  End : List ℕ → ℕ → Event
  Chars : List ℕ → Span → Event

abbrev pub node_events : Node-F (List Event) (List Event) → List Event
node_events (Node-F.Element es) = es
node_events (Node-F.Text t) = Chars t.value t.span ∷ []

abbrev pub element_events : Element-F (List Event) (List Event) → List Event
element_events e = Begin e.name e.attributes e.span.start ∷ flat_map (λ (es : List Event). es) e.children ++ End e.name e.span.end ∷ []

-- an element begins, what stands in it follows, and it ends
abbrev pub events_of : Node → List Event
events_of = fold-Node (List Event) (List Event) node_events element_events

abbrev pub events_of_element : Element → List Event
events_of_element = fold-Element (List Event) (List Event) node_events element_events

-- a reference and a CDATA section are text; comments and instructions are nothing
abbrev pub kind_events : Kind → Span → List Event
kind_events (kind.Start name attributes) span = Begin name attributes span.start ∷ []
kind_events (kind.Empty name attributes) span = Begin name attributes span.start ∷ End name span.end ∷ []
kind_events (kind.End name) span = End name span.end ∷ []
kind_events (kind.Text value) span = Chars value span ∷ []
kind_events (kind.Reference value) span = Chars value span ∷ []
kind_events (kind.Cdata value) span = Chars value span ∷ []
kind_events kind.Comment span = []
kind_events kind.Instruction span = []

abbrev pub token_events : Token → List Event
token_events t = kind_events t.kind t.span

-- a text that follows a text at once
abbrev pub both_texts : List ℕ → Span → Event → List Event
both_texts value span (Chars more over) = Chars (value ++ more) (record { start = span.start; end = over.end }) ∷ []
both_texts value span (Begin name attributes start) = Chars value span ∷ Begin name attributes start ∷ []
both_texts value span (End name end) = Chars value span ∷ End name end ∷ []

abbrev pub after_one : Event → Event → List Event
after_one (Chars value span) next = both_texts value span next
after_one (Begin name attributes start) next = Begin name attributes start ∷ next ∷ []
after_one (End name end) next = End name end ∷ next ∷ []

abbrev pub with_event : List Event → Event → List Event
with_event [] next = next ∷ []
with_event (e ∷ []) next = after_one e next
with_event (e ∷ (f ∷ es)) next = e ∷ with_event (f ∷ es) next

-- texts that follow each other are one
abbrev pub joined : List Event → List Event
joined es = fold with_event [] es

abbrev pub node_depth : Node-F ℕ ℕ → ℕ
node_depth (Node-F.Element n) = n
node_depth (Node-F.Text t) = 0

abbrev pub element_depth : Element-F ℕ ℕ → ℕ
element_depth e = fold max 0 e.children + 1

-- how many elements lie in one another, the outermost counted
abbrev pub depth_of_element : Element → ℕ
depth_of_element = fold-Element ℕ ℕ node_depth element_depth
