-- The rules 20 to 33, each on an element of a body. What an earlier rule excludes a later one may answer either way.
use Rattle.std.specs.Prelude.{◌≡◌, ℕ, Bool, true, false, not, ◌&&◌, ◌||◌, List, [], ◌∷◌, map, Option, Some, None, is_none, nat_eq, nat_lt, length}
use Rattle.std.specs.List.{list_any, find}
use Rattle.plcx_funcs.specs.Pins.{can_have}
use Rattle.plcx_model.specs.declared.body.Edge.{Edge}
use Rattle.plcx_model.specs.declared.body.Edge.TheVariants as edge
use Rattle.plcx_model.specs.declared.body.Storage.{Storage}
use Rattle.plcx_model.specs.declared.body.Storage.TheVariants as storage
use Rattle.plcx_model.specs.declared.body.Mods.{Mods}
use Rattle.plcx_model.specs.declared.body.Connection.{Connection}
use Rattle.plcx_model.specs.declared.body.PinIn.{PinIn}
use Rattle.plcx_model.specs.declared.body.PinOut.{PinOut}
use Rattle.plcx_model.specs.declared.body.Kind.{Kind}
use Rattle.plcx_model.specs.declared.body.Kind.TheVariants as kind
use Rattle.plcx_model.specs.declared.body.BodyElement.{BodyElement}
use Rattle.plcx_model.specs.declared.broken.Place.{Place}
use Rattle.plcx_model.specs.declared.project.Pou.{Pou}
use Rattle.plcx_model.specs.declared.project.Project.{Project}
use Rattle.plcx_model.specs.Sound.{connections_of}
use Rattle.plcx_model.specs.Verdict.{Verdict}
use Rattle.plcx_rules.specs.declared.callee.Callee.{Callee}
use Rattle.plcx_rules.specs.declared.callee.Callee.TheVariants as callee
use Rattle.plcx_rules.specs.declared.rule.LinkRule.{LinkRule}
use Rattle.plcx_rules.specs.declared.rule.LinkRule.TheVariants as rule
use Rattle.plcx_rules.specs.Texts.{same_name, is_empty}
use Rattle.plcx_rules.specs.Declarations.{Declaration, declaration_named}
use Rattle.plcx_rules.specs.Callees.{Formal, callee_named, names_function, is_instance_of, in_outs_of, is_enable, is_connected, present, input_count, input_formal, in_out_formal, output_name, output_formal, is_function}
use Rattle.plcx_rules.specs.Helds.{text_held, is_value, is_operand, is_target}
use Rattle.plcx_rules.specs.Sources.{place_of_id, producer, source_of, is_connector_named}
use Rattle.plcx_rules.specs.Items.{Item, items_of, earlier, place_of}

-- some element is so
abbrev pub is_among : (Kind → Bool) → List BodyElement → Bool
is_among is elements = list_any (λ (e : BodyElement). is e.kind) elements

-- 20. A localId is doubled in a body: an earlier element of the body has it, of whatever kind.
abbrev pub doubles_id : Item → Bool
doubles_id x = list_any (λ (e : BodyElement). nat_eq e.local_id x.element.local_id) (earlier x)

-- some connection of an element is so
abbrev pub any_connection : (Connection → Bool) → Kind → Bool
any_connection is k = list_any (list_any is) (connections_of k)

-- 21. A connection names no element of the body.
abbrev pub names_no_element : List BodyElement → Kind → Bool
names_no_element elements k = any_connection (λ (c : Connection). is_none (place_of_id elements c.element)) k

-- 22. A connection names no output of its producer, or none where the producer hasn't exactly one.
abbrev pub names_no_output : List BodyElement → Kind → Bool
names_no_output elements k = any_connection (λ (c : Connection). is_none (source_of elements c)) k

-- 23. Several connections stand at a pin, in a function block diagram; those of a right rail stand at one.
abbrev pub has_several : Kind → Bool
has_several k = list_any (λ (pin : List Connection). nat_lt 1 (length pin)) (connections_of k)

-- an input of a function is unconnected, but for EN
abbrev pub is_unconnected : PinIn → Bool
is_unconnected p = not (is_enable p) && not (is_connected p)

-- an in-out has one connection
abbrev pub has_one : PinIn → Bool
has_one p = nat_eq (length p.input) 1

-- 24. An input that takes a connection has none, or an in-out pin not exactly one.
unfoldable pub lacks_source : Kind → Bool
lacks_source (kind.Contact input text mods) = is_empty input
lacks_source (kind.Coil input text mods) = is_empty input
lacks_source (kind.Out input text mods) = is_empty input
lacks_source (kind.Block type_name instance inputs in_outs outputs) =
    (names_function type_name && list_any is_unconnected inputs) || list_any (λ (p : PinIn). not (has_one p)) in_outs
lacks_source (kind.Connector name input) = is_empty input
lacks_source (kind.Jump label input) = is_empty input
lacks_source (kind.Return input) = is_empty input
lacks_source _ = false

-- 25. A block's type is unknown.
unfoldable pub has_no_callee : List Pou → Kind → Bool
has_no_callee pous (kind.Block type_name instance inputs in_outs outputs) = is_none (callee_named pous type_name)
has_no_callee pous _ = false

-- what a name leads to is an instance of the callee
abbrev pub leads_to : Callee → Option Declaration → Bool
leads_to c None = false
leads_to c (Some d) = is_instance_of c d.variable.ty

-- a function has no instance, and a function block one of its type
abbrev pub instance_suits : Pou → Callee → Option (List ℕ) → Bool
instance_suits p (callee.Function f) instance = is_none instance
instance_suits p c None = false
instance_suits p c (Some name) = leads_to c (declaration_named p name)

-- the instance doesn't suit; nothing is said of an unknown block
abbrev pub instance_fails : Pou → Option Callee → Option (List ℕ) → Bool
instance_fails p None instance = false
instance_fails p (Some c) instance = not (instance_suits p c instance)

-- 26. A function block's instance is missing, unknown or of another type, or a function has one.
unfoldable pub breaks_instance : List Pou → Pou → Kind → Bool
breaks_instance pous p (kind.Block type_name instance inputs in_outs outputs) = instance_fails p (callee_named pous type_name) instance
breaks_instance pous p _ = false

-- a name stands twice
abbrev pub has_double : List (List ℕ) → Bool
has_double [] = false
has_double (name ∷ names) = list_any (same_name name) names || has_double names

-- the names of pins
abbrev pub names_of : List PinIn → List (List ℕ)
names_of pins = map (λ (p : PinIn). p.formal) pins

-- A function can have as many inputs as are listed. So, where each is one of the function's first so many and none is doubled, none is missing and there
-- is no gap.
abbrev pub count_suits : Callee → ℕ → Bool
count_suits (callee.Function f) n = can_have f n
count_suits (callee.Standard k) n = true
count_suits (callee.Block place) n = true

-- an input is unknown, doubled or missing
unfoldable pub inputs_fail : List Pou → Callee → List PinIn → Bool
inputs_fail pous c inputs =
    not (count_suits c (input_count inputs))
    || list_any (λ (p : PinIn). is_none (input_formal pous c inputs p)) (present inputs)
    || has_double (names_of (present inputs))

-- the in-out is listed
abbrev pub is_listed : List PinIn → Formal → Bool
is_listed in_outs f = list_any (λ (p : PinIn). same_name f.name p.formal) in_outs

-- an in-out is unknown, doubled or missing
unfoldable pub in_outs_fail : List Pou → Callee → List PinIn → Bool
in_outs_fail pous c in_outs =
    list_any (λ (p : PinIn). is_none (in_out_formal pous c p)) in_outs
    || has_double (names_of in_outs)
    || list_any (λ (f : Formal). not (is_listed in_outs f)) (in_outs_of pous c)

-- an output is unknown or doubled
unfoldable pub outputs_fail : List Pou → Callee → List PinOut → Bool
outputs_fail pous c outputs =
    list_any (λ (o : PinOut). is_none (output_formal pous c outputs o)) outputs
    || has_double (map (output_name (is_function c) outputs) outputs)

-- one of the sides fails; nothing is said of an unknown block
abbrev pub formals_fail : List Pou → Option Callee → List PinIn → List PinIn → List PinOut → Bool
formals_fail pous None inputs in_outs outputs = false
formals_fail pous (Some c) inputs in_outs outputs = inputs_fail pous c inputs || in_outs_fail pous c in_outs || outputs_fail pous c outputs

-- 27. A formal parameter is unknown or doubled at its side, or one is missing that a function needs or that is an in-out of a function block.
unfoldable pub breaks_formals : List Pou → Kind → Bool
breaks_formals pous (kind.Block type_name instance inputs in_outs outputs) = formals_fail pous (callee_named pous type_name) inputs in_outs outputs
breaks_formals pous _ = false

-- 28. An expression isn't what may stand there, or its name is unknown.
unfoldable pub breaks_expression : List Pou → Pou → Kind → Bool
breaks_expression pous p (kind.In text mods) = not (is_value (text_held pous p text))
breaks_expression pous p (kind.Contact input text mods) = not (is_operand (text_held pous p text))
breaks_expression pous p (kind.Coil input text mods) = is_none (text_held pous p text)
breaks_expression pous p (kind.Out input text mods) = is_none (text_held pous p text)
breaks_expression pous p _ = false

-- an inVariable that holds a variable which can be written
unfoldable pub lends : List Pou → Pou → Kind → Bool
lends pous p (kind.In text mods) = is_target (text_held pous p text)
lends pous p _ = false

-- the producer of a connection is so
abbrev pub producer_is : (Kind → Bool) → Option BodyElement → Bool
producer_is is None = false
producer_is is (Some e) = is e.kind

-- some connection of in-out pins has a producer that is so
abbrev pub any_lender : (Kind → Bool) → List BodyElement → List PinIn → Bool
any_lender is elements in_outs = list_any (λ (p : PinIn). list_any (λ (c : Connection). producer_is is (producer elements c)) p.input) in_outs

-- 29. A target can't be written, or the source of an in-out pin isn't an inVariable that holds a variable which can be.
unfoldable pub breaks_target : List Pou → Pou → Kind → Bool
breaks_target pous p (kind.Coil input text mods) = not (is_target (text_held pous p text))
breaks_target pous p (kind.Out input text mods) = not (is_target (text_held pous p text))
breaks_target pous p (kind.Block type_name instance inputs in_outs outputs) = any_lender (λ (k : Kind). not (lends pous p k)) p.body.elements in_outs
breaks_target pous p _ = false

-- 30. A connector's name is doubled, or a continuation has no connector.
unfoldable pub breaks_connector : Item → Kind → Bool
breaks_connector x (kind.Connector name input) = is_among (is_connector_named name) (earlier x)
breaks_connector x (kind.Continuation name) = not (is_among (is_connector_named name) x.owner.body.elements)
breaks_connector x _ = false

-- a label of that name
unfoldable pub is_label_named : List ℕ → Kind → Bool
is_label_named name (kind.Label own) = same_name name own
is_label_named name _ = false

-- 31. A label is doubled, or a jump has none.
unfoldable pub breaks_label : Item → Kind → Bool
breaks_label x (kind.Label name) = is_among (is_label_named name) (earlier x)
breaks_label x (kind.Jump label input) = not (is_among (is_label_named label) x.owner.body.elements)
breaks_label x _ = false

-- rising or falling
abbrev pub is_edge : Edge → Bool
is_edge edge.Plain = false
is_edge edge.Rising = true
is_edge edge.Falling = true

-- set or reset
abbrev pub is_stored : Storage → Bool
is_stored storage.Plain = false
is_stored storage.Set = true
is_stored storage.Reset = true

-- there is an edge or storage, beside which a negation may stand or not
abbrev pub has_more : Mods → Bool
has_more m = is_edge m.edge || is_stored m.storage

-- there is a modifier
abbrev pub has_any : Mods → Bool
has_any m = m.negated || has_more m

-- an inVariable with a modifier
unfoldable pub is_modified_in : Kind → Bool
is_modified_in (kind.In text mods) = has_any mods
is_modified_in _ = false

-- 32. Modifiers aren't allowed together or there. At an in-out pin and at an inVariable that is wired to one none is, and the block breaks the rule.
unfoldable pub breaks_modifiers : List BodyElement → Kind → Bool
breaks_modifiers elements (kind.Contact input text m) = is_stored m.storage || (m.negated && is_edge m.edge)
breaks_modifiers elements (kind.Coil input text m) = (m.negated && has_more m) || (is_edge m.edge && is_stored m.storage)
breaks_modifiers elements (kind.In text m) = has_more m
breaks_modifiers elements (kind.Out input text m) = is_edge m.edge || (m.negated && is_stored m.storage)
breaks_modifiers elements (kind.Block type_name instance inputs in_outs outputs) =
    list_any (λ (p : PinIn). has_more p.mods) (present inputs)
    || list_any (λ (o : PinOut). has_more o.mods) outputs
    || list_any (λ (p : PinIn). has_any p.mods) in_outs
    || any_lender is_modified_in elements in_outs
breaks_modifiers elements _ = false

-- 33. A rail, contact or coil stands in a function block diagram.
unfoldable pub is_of_ladder : Kind → Bool
is_of_ladder kind.LeftRail = true
is_of_ladder (kind.RightRail input) = true
is_of_ladder (kind.Contact input text mods) = true
is_of_ladder (kind.Coil input text mods) = true
is_of_ladder _ = false

-- whether an element breaks a rule, in a project with these POUs
unfoldable pub breaks : List Pou → LinkRule → Item → Bool
breaks pous rule.LocalIds x = doubles_id x
breaks pous rule.References x = names_no_element x.owner.body.elements x.element.kind
breaks pous rule.Outputs x = names_no_output x.owner.body.elements x.element.kind
breaks pous rule.Several x = not x.owner.body.ladder && has_several x.element.kind
breaks pous rule.Missing x = lacks_source x.element.kind
breaks pous rule.BlockTypes x = has_no_callee pous x.element.kind
breaks pous rule.Instances x = breaks_instance pous x.owner x.element.kind
breaks pous rule.Formals x = breaks_formals pous x.element.kind
breaks pous rule.Expressions x = breaks_expression pous x.owner x.element.kind
breaks pous rule.Targets x = breaks_target pous x.owner x.element.kind
breaks pous rule.Connectors x = breaks_connector x x.element.kind
breaks pous rule.Labels x = breaks_label x x.element.kind
breaks pous rule.Modifiers x = breaks_modifiers x.owner.body.elements x.element.kind
breaks pous rule.Ladders x = not x.owner.body.ladder && is_of_ladder x.element.kind

-- an element breaks a rule, whatever items stand before
abbrev pub BreaksLink : List Pou → LinkRule → List Item → Item → Type 0
BreaksLink pous r before x = breaks pous r x ≡ true

-- the rules, as they are tested
abbrev pub link_rules : List LinkRule
link_rules = rule.LocalIds ∷ rule.References ∷ rule.Outputs ∷ rule.Several ∷ rule.Missing ∷ rule.BlockTypes ∷ rule.Instances
    ∷ rule.Formals ∷ rule.Expressions ∷ rule.Targets ∷ rule.Connectors ∷ rule.Labels ∷ rule.Modifiers ∷ rule.Ladders ∷ []

-- the number of a rule
abbrev pub number : LinkRule → ℕ
number rule.LocalIds = 20
number rule.References = 21
number rule.Outputs = 22
number rule.Several = 23
number rule.Missing = 24
number rule.BlockTypes = 25
number rule.Instances = 26
number rule.Formals = 27
number rule.Expressions = 28
number rule.Targets = 29
number rule.Connectors = 30
number rule.Labels = 31
number rule.Modifiers = 32
number rule.Ladders = 33

-- each rule is broken at the element
abbrev pub link_place : LinkRule → Item → Place
link_place r x = place_of x

-- the first rule from 20 to 33 that a project breaks, and the element that breaks it first
abbrev pub LinkVerdict : Project → Option (LinkRule × Place) → Type 0
LinkVerdict project v = Verdict (BreaksLink project.pous) link_place (items_of project.pous) link_rules v

-- the first element that breaks a rule, or else an answer on the rules behind it
abbrev pub answer_or : LinkRule → Option Item → Option (LinkRule × Place) → Option (LinkRule × Place)
answer_or r None later = later
answer_or r (Some x) later = Some (r, link_place r x)

-- the answer of some rules, as it computes
abbrev pub first_of_rules : List Pou → List LinkRule → Option (LinkRule × Place)
first_of_rules pous [] = None
first_of_rules pous (r ∷ rules) = answer_or r (find (breaks pous r) (items_of pous)) (first_of_rules pous rules)

-- the verdict, as it computes
abbrev pub link_answer : List Pou → Option (LinkRule × Place)
link_answer pous = first_of_rules pous link_rules
