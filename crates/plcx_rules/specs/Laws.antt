-- What is said of the definitions alone.
use Rattle.std.specs.Prelude.{◌≡◌, ℕ, true, not, List, [], ◌∷◌, Some, map, length, is_some, slice_get}
use Rattle.std.specs.List.{find, filter}
use Rattle.plcx_types.specs.Lists.{Each}
use Rattle.plcx_funcs.specs.declared.func.Func.{Func}
use Rattle.plcx_model.specs.declared.body.BodyElement.{BodyElement}
use Rattle.plcx_model.specs.declared.body.Connection.{Connection}
use Rattle.plcx_model.specs.declared.body.PinIn.{PinIn}
use Rattle.plcx_model.specs.declared.body.PinOut.{PinOut}
use Rattle.plcx_model.specs.declared.body.Kind.{Kind}
use Rattle.plcx_model.specs.declared.body.Kind.TheVariants as kind
use Rattle.plcx_model.specs.declared.project.Pou.{Pou}
use Rattle.plcx_model.specs.declared.source.Source.{Source}
use Rattle.plcx_model.specs.Numbering.{HasGraph}
use Rattle.plcx_model.specs.Sound.{connections_of}
use Rattle.plcx_rules.specs.Texts.{same_name}
use Rattle.plcx_rules.specs.Callees.{Formal, is_enable, function_inputs, input_count}
use Rattle.plcx_rules.specs.Sources.{source_of, pins_with_sources, sources_in}

-- each body has a graph, with the sources of its input pins
abbrev pub HaveGraphs : List Pou → Type 0
HaveGraphs pous = Each (λ (p : Pou). HasGraph p.body.elements (sources_in p.body.elements)) pous

-- each connection of a body is a source
abbrev pub AreSources : List BodyElement → Type 0
AreSources elements = Each (λ (e : BodyElement). Each (Each (λ (c : Connection). is_some (source_of elements c) ≡ true)) (connections_of e.kind)) elements

-- the inputs that are listed beside EN
abbrev pub beside : List PinIn → List PinIn
beside inputs = filter (λ (p : PinIn). not (is_enable p)) inputs

-- an input of that name is listed
abbrev pub IsListed : List PinIn → Formal → Type 0
IsListed inputs f = is_some (find (λ (p : PinIn). same_name f.name p.formal) (beside inputs)) ≡ true

-- each input that a function has, where it has as many as are listed, is listed
abbrev pub NoneIsMissing : Func → List PinIn → Type 0
NoneIsMissing f inputs = Each (IsListed inputs) (function_inputs f (input_count inputs))

-- an output of an element: the only one where it has no name, or a listed one of a block
abbrev pub HasOutput : Kind → ℕ → Type 0
HasOutput kind.Skipped pin = ⊥
HasOutput kind.LeftRail pin = pin ≡ 0
HasOutput (kind.RightRail input) pin = ⊥
HasOutput (kind.Contact input text mods) pin = pin ≡ 0
HasOutput (kind.Coil input text mods) pin = pin ≡ 0
HasOutput (kind.In text mods) pin = pin ≡ 0
HasOutput (kind.Out input text mods) pin = ⊥
HasOutput (kind.Block type_name instance inputs in_outs outputs) pin = (o : PinOut) × (slice_get outputs pin ≡ Some o)
HasOutput (kind.Connector name input) pin = pin ≡ 0
HasOutput (kind.Continuation name) pin = pin ≡ 0
HasOutput (kind.Label name) pin = ⊥
HasOutput (kind.Jump label input) pin = ⊥
HasOutput (kind.Return input) pin = ⊥

-- a source is an output of an element of the body
abbrev pub IsOutput : List BodyElement → Source → Type 0
IsOutput elements s = (e : BodyElement) × (slice_get elements s.element ≡ Some e) × HasOutput e.kind s.pin

-- all sources of a body are
abbrev pub AreOutputs : List BodyElement → Type 0
AreOutputs elements = Each (Each (IsOutput elements)) (sources_in elements)

-- how many sources each input pin of an element has: as many as connections, and one at a continuation
abbrev pub source_counts : Kind → List ℕ
source_counts (kind.Continuation name) = 1 ∷ []
source_counts k = map length (connections_of k)

-- each element of a body has so many
abbrev pub AreCounted : List BodyElement → Type 0
AreCounted elements = Each (λ (e : BodyElement). map length (pins_with_sources elements e.kind) ≡ source_counts e.kind) elements
