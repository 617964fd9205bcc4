-- Pieces of an exchange file: how each is spelled, and which parts of a tree it stands for, from an offset on.
use Rattle.std.specs.Prelude.{ℕ, ◌+◌, List, [], ◌∷◌, ◌++◌, length}
use Rattle.plcx_xml.specs.Grammar.{span_from}
use Rattle.plcx_xml.specs.declared.tree.Attribute.{Attribute}
use Rattle.plcx_xml.specs.declared.tree.Node.{Node, roll-Node}
use Rattle.plcx_xml.specs.declared.tree.Node.TheOpen.{Node-F}
use Rattle.plcx_xml.specs.declared.tree.Element.{Element, roll-Element}

-- the bytes, and the parts of a tree where they begin at an offset
pub record Piece : Type 0 where
  pub bytes : List ℕ
  pub nodes : ℕ → List Node

-- the name and the value of an attribute
pub record Pair : Type 0 where
  pub name : List ℕ
  pub value : List ℕ

-- an attribute from its name on
abbrev pub quoted : Pair → List ℕ
quoted a = a.name ++ (61 ∷ (34 ∷ (a.value ++ (34 ∷ []))))

-- a space, and an attribute
abbrev pub spelled : Pair → List ℕ
spelled a = 32 ∷ quoted a

-- attributes, one behind the other
abbrev pub spelled_all : List Pair → List ℕ
spelled_all [] = []
spelled_all (a ∷ more) = spelled a ++ spelled_all more

-- the attributes that they are
abbrev pub attributes_at : ℕ → List Pair → List Attribute
attributes_at at [] = []
attributes_at at (a ∷ more) = record { name = a.name; value = a.value; span = span_from (at + 1) (length (quoted a)) } ∷ attributes_at (at + length (spelled a)) more

-- a tag, which ends so
abbrev pub tag : List ℕ → List Pair → List ℕ → List ℕ
tag name attributes close = 60 ∷ (name ++ (spelled_all attributes ++ close))

-- a start tag
abbrev pub start_tag : List ℕ → List Pair → List ℕ
start_tag name attributes = tag name attributes (62 ∷ [])

-- an end tag
abbrev pub end_tag : List ℕ → List ℕ
end_tag name = 60 ∷ (47 ∷ (name ++ (62 ∷ [])))

-- an element with these parts
abbrev pub element_of : List ℕ → List Pair → List Node → ℕ → List ℕ → Element
element_of name attributes children at bytes = roll-Element (record {
  name = name;
  attributes = attributes_at (at + 1 + length name) attributes;
  children = children;
  span = span_from at (length bytes);
})

-- a part that is an element
abbrev pub node_of : Element → Node
node_of e = roll-Node (Node-F.Element e)

-- a start tag, a piece, and an end tag
abbrev pub around : List ℕ → List Pair → List ℕ → List ℕ
around name attributes inner = start_tag name attributes ++ (inner ++ end_tag name)

-- the element that they are
abbrev pub around_at : List ℕ → List Pair → Piece → ℕ → Element
around_at name attributes inner at = element_of name attributes (inner.nodes (at + length (start_tag name attributes))) at (around name attributes inner.bytes)

-- an element with a piece in it
abbrev pub element : List ℕ → List Pair → Piece → Piece
element name attributes inner = record {
  bytes = around name attributes inner.bytes;
  nodes = λ at. node_of (around_at name attributes inner at) ∷ [];
}

-- an element with nothing in it
abbrev pub empty : List ℕ → List Pair → Piece
empty name attributes = record {
  bytes = tag name attributes (47 ∷ (62 ∷ []));
  nodes = λ at. node_of (element_of name attributes [] at (tag name attributes (47 ∷ (62 ∷ [])))) ∷ [];
}

-- text
abbrev pub words : List ℕ → Piece
words text = record { bytes = text; nodes = λ at. roll-Node (Node-F.Text (record { value = text; span = span_from at (length text) })) ∷ [] }

-- nothing
abbrev pub nothing : Piece
nothing = record { bytes = []; nodes = λ at. [] }

-- one piece behind another
abbrev pub both : Piece → Piece → Piece
both p q = record { bytes = p.bytes ++ q.bytes; nodes = λ at. p.nodes at ++ q.nodes (at + length p.bytes) }

-- pieces, one behind the other
abbrev pub in_a_row : List Piece → Piece
in_a_row [] = nothing
in_a_row (p ∷ more) = both p (in_a_row more)
