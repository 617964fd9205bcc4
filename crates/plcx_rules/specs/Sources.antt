-- The sources of each input pin of a body. Everything is total: a connection that leads to no output has no source.
use Rattle.std.specs.Prelude.{ℕ, Bool, false, ◌||◌, List, [], ◌∷◌, map, Option, Some, None, nat_eq, length, option_map, option_and_then, slice_get, if◌then◌else◌}
use Rattle.std.specs.List.{filter_map, flat_map, position_from}
use Rattle.std.specs.Option.{option_to_list}
use Rattle.plcx_model.specs.declared.body.Connection.{Connection}
use Rattle.plcx_model.specs.declared.body.PinOut.{PinOut}
use Rattle.plcx_model.specs.declared.body.Kind.{Kind}
use Rattle.plcx_model.specs.declared.body.Kind.TheVariants as kind
use Rattle.plcx_model.specs.declared.body.BodyElement.{BodyElement}
use Rattle.plcx_model.specs.declared.project.Pou.{Pou}
use Rattle.plcx_model.specs.declared.source.Source.{Source}
use Rattle.plcx_model.specs.Sound.{connections_of}
use Rattle.plcx_rules.specs.Texts.{same_name}
use Rattle.plcx_rules.specs.Callees.{names_function, output_name}

-- an output of an element, which is named by its place in the body
abbrev pub source : ℕ → ℕ → Source
source element pin = record { element = element; pin = pin }

-- ---- producers

-- the place of the first element with that localId
unfoldable pub place_of_id : List BodyElement → ℕ → Option ℕ
place_of_id elements id = position_from (λ (e : BodyElement). nat_eq e.local_id id) 0 elements

-- the element that a connection names
abbrev pub producer : List BodyElement → Connection → Option BodyElement
producer elements c = option_and_then (slice_get elements) (place_of_id elements c.element)

-- ---- outputs

-- a listed output has that name: the listed one, or at a function OUT where it is the result
abbrev pub has_name : (function : Bool) → List PinOut → List ℕ → PinOut → Bool
has_name function outputs name o = same_name name o.formal || same_name name (output_name function outputs o)

-- the place of the output of a block that a connection names; where it names none, the block's only one
abbrev pub output_named : (function : Bool) → List PinOut → List ℕ → Option ℕ
output_named function outputs [] = if nat_eq (length outputs) 1 then Some 0 else None
output_named function outputs (b ∷ bs) = position_from (has_name function outputs (b ∷ bs)) 0 outputs

-- The place of the output of an element that a connection names. A left rail, contact, coil, inVariable and continuation have one without a name, and a
-- connector's is for its continuations alone.
unfoldable pub output_place : Kind → List ℕ → Option ℕ
output_place kind.Skipped name = None
output_place kind.LeftRail name = Some 0
output_place (kind.RightRail input) name = None
output_place (kind.Contact input text mods) name = Some 0
output_place (kind.Coil input text mods) name = Some 0
output_place (kind.In text mods) name = Some 0
output_place (kind.Out input text mods) name = None
output_place (kind.Block type_name instance inputs in_outs outputs) name = output_named (names_function type_name) outputs name
output_place (kind.Connector own input) name = None
output_place (kind.Continuation own) name = Some 0
output_place (kind.Label own) name = None
output_place (kind.Jump label input) name = None
output_place (kind.Return input) name = None

-- ---- sources

-- the output that a connection names of the element at a place
abbrev pub source_at : List BodyElement → List ℕ → ℕ → Option Source
source_at elements name place = option_and_then (λ (e : BodyElement). option_map (source place) (output_place e.kind name)) (slice_get elements place)

-- the source of a connection
unfoldable pub source_of : List BodyElement → Connection → Option Source
source_of elements c = option_and_then (source_at elements c.formal) (place_of_id elements c.element)

-- a connector of that name
unfoldable pub is_connector_named : List ℕ → Kind → Bool
is_connector_named name (kind.Connector own input) = same_name name own
is_connector_named name _ = false

-- the place of the connector of a name
unfoldable pub connector_place : List BodyElement → List ℕ → Option ℕ
connector_place elements name = position_from (λ (e : BodyElement). is_connector_named name e.kind) 0 elements

-- the sources at a pin, in the order of its connections
abbrev pub sources_at : List BodyElement → List Connection → List Source
sources_at elements connections = filter_map (source_of elements) connections

-- the source of a continuation
abbrev pub continued : List BodyElement → List ℕ → List Source
continued elements name = option_to_list (option_map (λ place. source place 0) (connector_place elements name))

-- the sources of each input pin of an element. A continuation has one pin, whose source is the connector of its name.
unfoldable pub pins_with_sources : List BodyElement → Kind → List (List Source)
pins_with_sources elements (kind.Continuation name) = continued elements name ∷ []
pins_with_sources elements k = map (sources_at elements) (connections_of k)

-- the sources of each input pin of a body
unfoldable pub sources_in : List BodyElement → List (List Source)
sources_in elements = flat_map (λ (e : BodyElement). pins_with_sources elements e.kind) elements

-- the sources of each input pin of each body
abbrev pub links_of : List Pou → List (List (List Source))
links_of pous = map (λ (p : Pou). sources_in p.body.elements) pous
