-- The pieces of the text of a POU, by its elements.
use Rattle.std.specs.Prelude.{ℕ, Bool, List, [], ◌∷◌, ◌++◌, if◌then◌else◌}
use Rattle.std.specs.List.{flat_map}
use Rattle.plcx_types.specs.declared.ty.Ty.TheVariants as ty
use Rattle.plcx_meaning.specs.Base.{AtEdge, AtOutput}
use Rattle.plcx_meaning.specs.Diagram.{has_edge, DiagramElement, Port}
use Rattle.plcx_meaning.specs.Tree.{Local, Temp, Plain, Declaration, Block}
use Rattle.plcx_meaning.specs.Templates.{own, memory_name, wire_name, counter_name, block, list_text, element_memories, element_wires}

-- the variable of what an element remembers at its edge
abbrev pub edge_memories : DiagramElement → List Declaration
edge_memories e = if has_edge e.kind then own (memory_name (AtEdge e.id)) ty.Bool ∷ [] else []

-- the variable of an output that feeds back
abbrev pub fed_memory : ℕ → Port → Declaration
fed_memory id p = own (memory_name (AtOutput id p.pin)) p.ty

-- the temporary of a wire
abbrev pub wire_of : ℕ → Port → Declaration
wire_of id p = own (wire_name id p.pin) p.ty

-- the wires of the elements, and behind them the counter of a body that jumps
abbrev pub temporaries : (jumps : Bool) → List DiagramElement → List Declaration
temporaries jumps elements = flat_map element_wires elements ++ (if jumps then own counter_name ty.Dint ∷ [] else [])

-- the lists of a POU, its memories, and its temporaries
abbrev pub blocks_of : List Block → List DiagramElement → (jumps : Bool) → List Block
blocks_of lists elements jumps =
    flat_map list_text lists ++ (block Local Plain (flat_map element_memories elements) ++ block Temp Plain (temporaries jumps elements))
