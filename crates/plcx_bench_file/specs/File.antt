-- The exchange file of the project that is measured: its parts are spelled without white space between tags.
use Rattle.std.specs.Prelude.{ℕ, List, [], ◌∷◌, map, codes}
use Rattle.std.specs.List.{range_with_len}
use Rattle.std.specs.Fmt.{decimal}
use Rattle.plcx_bench_project.specs.Bench.{variable_name, next_name, id_in}
use Rattle.plcx_xml.specs.declared.tree.Element.{Element}
use Rattle.plcx_bench_file.specs.Markup.{Piece, Pair, element, empty, words, both, in_a_row, around_at}

-- an attribute
abbrev pub with : List ℕ → List ℕ → Pair
with name value = record { name = name; value = value }

-- the number of an element
abbrev pub numbered : List ℕ → List Pair
numbered id = with (codes "localId") id ∷ []

-- a position, so many units from the top
abbrev pub position : List ℕ → Piece
position y = empty (codes "position") (with (codes "x") (codes "0") ∷ with (codes "y") y ∷ [])

-- the text of an input or an output
abbrev pub expression : List ℕ → Piece
expression text = element (codes "expression") [] (words text)

-- an input
abbrev pub input : List ℕ → List ℕ → List ℕ → Piece
input id y text = element (codes "inVariable") (numbered id) (both (position y) (expression text))

-- the point of a connection to the element of that number
abbrev pub point : List Pair → Piece
point attributes = element (codes "connectionPointIn") [] (empty (codes "connection") attributes)

-- an input of the addition
abbrev pub pin : List ℕ → List ℕ → Piece
pin formal id = element (codes "variable") (with (codes "formalParameter") formal ∷ []) (point (with (codes "refLocalId") id ∷ []))

-- the inputs of the addition
abbrev pub pins : List ℕ → List ℕ → Piece
pins left right = element (codes "inputVariables") [] (both (pin (codes "IN1") left) (pin (codes "IN2") right))

-- its output
abbrev pub result : Piece
result = element (codes "outputVariables") [] (empty (codes "variable") (with (codes "formalParameter") (codes "OUT") ∷ []))

-- the addition of two elements
abbrev pub addition : List ℕ → List ℕ → List ℕ → List ℕ → Piece
addition id y left right = element (codes "block") (with (codes "localId") id ∷ with (codes "typeName") (codes "ADD") ∷ []) (both (position y) (both (pins left right) result))

-- an output that takes a sum
abbrev pub output : List ℕ → List ℕ → List ℕ → List ℕ → Piece
output id y sum text = element (codes "outVariable") (numbered id)
    (both (position y) (both (point (with (codes "refLocalId") sum ∷ with (codes "formalParameter") (codes "OUT") ∷ [])) (expression text)))

-- the four elements of a network
abbrev pub four : List ℕ → List ℕ → List ℕ → List ℕ → List ℕ → List ℕ → List ℕ → Piece
four one two three last y name next =
    both (input one y name) (both (input two y (codes "DINT#1")) (both (addition three y one two) (output last y three next)))

-- the i-th of n networks
abbrev pub network : ℕ → ℕ → Piece
network n i = four (decimal (id_in i 1)) (decimal (id_in i 2)) (decimal (id_in i 3)) (decimal (id_in i 4)) (decimal i) (variable_name i) (next_name n i)

-- a variable of the ring
abbrev pub declaration : List ℕ → Piece
declaration name = element (codes "variable") (with (codes "name") name ∷ []) (element (codes "type") [] (empty (codes "DINT") []))

-- the variables
abbrev pub declarations : ℕ → Piece
declarations n = in_a_row (map (λ i. declaration (variable_name i)) (range_with_len 0 n))

-- the networks
abbrev pub networks : ℕ → Piece
networks n = in_a_row (map (network n) (range_with_len 0 n))

-- a program of these variables and networks
abbrev pub program : Piece → Piece → Piece
program variables body = element (codes "pou") (with (codes "name") (codes "Bench") ∷ with (codes "pouType") (codes "program") ∷ [])
    (both (element (codes "interface") [] (element (codes "localVars") [] variables)) (element (codes "body") [] (element (codes "FBD") [] body)))

-- what stands in the root
abbrev pub inside : Piece → Piece → Piece
inside variables body = element (codes "types") [] (element (codes "pous") [] (program variables body))

-- the namespace of the file
abbrev pub namespace : List Pair
namespace = with (codes "xmlns") (codes "http://www.plcopen.org/xml/tc6_0201") ∷ []

-- a file of one program with these variables and networks
abbrev pub file : Piece → Piece → Piece
file variables body = element (codes "project") namespace (inside variables body)

-- its root
abbrev pub root : Piece → Piece → Element
root variables body = around_at (codes "project") namespace (inside variables body) 0

-- the bytes of the file of n networks
abbrev pub bench_bytes : ℕ → List ℕ
bench_bytes n = (file (declarations n) (networks n)).bytes

-- the tree that they stand for
abbrev pub bench_root : ℕ → Element
bench_root n = root (declarations n) (networks n)
