-- The graphs of bodies, and the sources of their connections.
use Rattle.std.proofs.Common.{◌≡◌, ℕ, ◌+◌, ◌<◌, ◌^◌, Bool, true, List, [], ◌∷◌, ◌++◌, length, map, take, Option, Some, None, refl, sym, ◌∙◌, ap, arith, append_assoc}
use Rattle.std.specs.Prelude.{nat_eq, is_some, is_none, option_map, option_and_then, slice_get}
use Rattle.std.specs.List.{list_any, position_from, flat_map}
use Rattle.std.specs.Option.{option_to_list}
use Rattle.std.proofs.lemmas.Bool.{eq-eqb}
use Rattle.std.proofs.lemmas.List.{length-append}
use Rattle.std.proofs.lemmas.Option.{slice_get_within}
use Rattle.std.proofs.Math.Seq.{take-append_seam}
use Rattle.plcx_types.specs.Lists.{Each}
use Rattle.plcx_model.specs.declared.body.Connection.{Connection}
use Rattle.plcx_model.specs.declared.body.PinIn.{PinIn}
use Rattle.plcx_model.specs.declared.body.Kind.{Kind}
use Rattle.plcx_model.specs.declared.body.Kind.TheVariants as kind
use Rattle.plcx_model.specs.declared.body.BodyElement.{BodyElement}
use Rattle.plcx_model.specs.declared.project.Pou.{Pou}
use Rattle.plcx_model.specs.declared.project.Project.{Project}
use Rattle.plcx_model.specs.declared.source.Source.{Source}
use Rattle.plcx_model.specs.Numbering.{pins_of, pins_in, LocalIdsDiffer, HasGraph}
use Rattle.plcx_model.specs.Sound.{Sound, PouIsSound, PinsAreFew, connections_of}
use Rattle.plcx_rules.specs.declared.rule.LinkRule.TheVariants as rule
use Rattle.plcx_rules.specs.Sources.{source, place_of_id, output_place, source_at, source_of, is_connector_named, connector_place, sources_at, continued, pins_with_sources, sources_in}
use Rattle.plcx_rules.specs.Items.{items_in, items_from}
use Rattle.plcx_rules.specs.LinkRules.{names_no_output, breaks, LinkVerdict}
use Rattle.plcx_rules.specs.Laws.{HaveGraphs, AreSources}
use Rattle.plcx_rules.proofs.Kept.{Keeps, keeps}
use Rattle.plcx_rules.proofs.Lists.{length_map, each_split, each_more, each_of_map, each_of_flat_map, OnEvery, each_of_filter_map, any_front, any_last, none_of, below_end}

-- ---- localIds

-- no element of some has the localId of this one
abbrev NoneHas : List BodyElement → BodyElement → Type 0
NoneHas front e = list_any (λ (f : BodyElement). nat_eq f.local_id e.local_id) front ≡ true → ⊥

apart : (pous : List Pou) (k : ℕ) (p : Pou) (n : ℕ) (front rest : List BodyElement) → n ≡ length front → p.body.elements ≡ front ++ rest → Each (Keeps pous rule.LocalIds) (items_in k p n rest) → Each (NoneHas front) rest × LocalIdsDiffer rest
unfolding breaks
apart pous k p n front [] at is keep = (tt, tt)
apart pous k p n front (e ∷ es) at is keep =
    let more : List BodyElement = front ++ e ∷ [] in
    let ahead : take n p.body.elements ≡ front = ap (take n) is ∙ (ap (λ m. take m (front ++ e ∷ es)) at ∙ take-append_seam front (e ∷ es)) in
    let one_more : n + 1 ≡ length more = ap (λ m. m + 1) at ∙ sym (length-append front (e ∷ [])) in
    let later = apart pous k p (n + 1) more es one_more (is ∙ sym (append_assoc front (e ∷ []) es)) keep.1 in (
      (
        (λ h. keep.0 (ap (list_any (λ (f : BodyElement). nat_eq f.local_id e.local_id)) ahead ∙ h)),
        each_more (NoneHas more) (NoneHas front) es (λ f none h. none (any_front (λ (g : BodyElement). nat_eq g.local_id f.local_id) front (e ∷ []) h)) later.0,
      ),
      (each_more (NoneHas more) (λ (f : BodyElement). e.local_id ≡ f.local_id → ⊥) es (λ f none same. none (any_last (λ (g : BodyElement). nat_eq g.local_id f.local_id) front e (eq-eqb e.local_id f.local_id same))) later.0, later.1),
    )

-- ---- pins

map_pins : (elements : List BodyElement) (pins : List (List Connection)) → length (map (sources_at elements) pins) ≡ length pins
map_pins elements pins = length_map (sources_at elements) pins

block_pins : (inputs in_outs : List PinIn) → length (map (λ (p : PinIn). p.input) inputs ++ map (λ (p : PinIn). p.input) in_outs) ≡ length inputs + length in_outs
block_pins inputs in_outs =
    let both = length-append (map (λ (p : PinIn). p.input) inputs) (map (λ (p : PinIn). p.input) in_outs) in
    both ∙ (ap (λ n. n + length (map (λ (p : PinIn). p.input) in_outs)) (length_map (λ (p : PinIn). p.input) inputs) ∙ ap (λ n. length inputs + n) (length_map (λ (p : PinIn). p.input) in_outs))

pub pin_count : (elements : List BodyElement) (k : Kind) → pins_of k ≡ length (pins_with_sources elements k)
unfolding pins_with_sources
pin_count elements kind.Skipped = refl
pin_count elements kind.LeftRail = refl
pin_count elements (kind.RightRail input) = refl
pin_count elements (kind.Contact input text mods) = refl
pin_count elements (kind.Coil input text mods) = refl
pin_count elements (kind.In text mods) = refl
pin_count elements (kind.Out input text mods) = refl
pin_count elements (kind.Block type_name instance inputs in_outs outputs) = sym (map_pins elements (map (λ (p : PinIn). p.input) inputs ++ map (λ (p : PinIn). p.input) in_outs) ∙ block_pins inputs in_outs)
pin_count elements (kind.Connector name input) = refl
pin_count elements (kind.Continuation name) = refl
pin_count elements (kind.Label name) = refl
pin_count elements (kind.Jump label input) = refl
pin_count elements (kind.Return input) = refl

pin_counts : (elements es : List BodyElement) → pins_in es ≡ length (flat_map (λ (e : BodyElement). pins_with_sources elements e.kind) es)
pin_counts elements [] = refl
pin_counts elements (e ∷ es) =
    let here = pins_with_sources elements e.kind in
    ap (λ n. n + pins_in es) (pin_count elements e.kind) ∙ (ap (λ n. length here + n) (pin_counts elements es) ∙ sym (length-append here (flat_map (λ (x : BodyElement). pins_with_sources elements x.kind) es)))

few_pins : (k : Kind) → PinsAreFew k → pins_of k < 2 ^ 32
few_pins kind.Skipped few = omega arith
few_pins kind.LeftRail few = omega arith
few_pins (kind.RightRail input) few = omega arith
few_pins (kind.Contact input text mods) few = omega arith
few_pins (kind.Coil input text mods) few = omega arith
few_pins (kind.In text mods) few = omega arith
few_pins (kind.Out input text mods) few = omega arith
few_pins (kind.Block type_name instance inputs in_outs outputs) few = let m = few.0 in let n = few.1 in omega (arith, m, n)
few_pins (kind.Connector name input) few = omega arith
few_pins (kind.Continuation name) few = omega arith
few_pins (kind.Label name) few = omega arith
few_pins (kind.Jump label input) few = omega arith
few_pins (kind.Return input) few = omega arith

-- ---- sources

-- a source is an element of the body
abbrev Within : List BodyElement → Source → Type 0
Within elements s = s.element < length elements

output_within : (elements : List BodyElement) (place : ℕ) (o : Option ℕ) → place < length elements → OnEvery (Within elements) (option_map (source place) o)
output_within elements place None below = tt
output_within elements place (Some pin) below = below

producer_within : (elements : List BodyElement) (name : List ℕ) (place : ℕ) (o : Option BodyElement) → slice_get elements place ≡ o → OnEvery (Within elements) (option_and_then (λ (e : BodyElement). option_map (source place) (output_place e.kind name)) o)
producer_within elements name place None is = tt
producer_within elements name place (Some e) is = output_within elements place (output_place e.kind name) (slice_get_within elements place e is)

place_within : (elements : List BodyElement) (name : List ℕ) (o : Option ℕ) → OnEvery (Within elements) (option_and_then (source_at elements name) o)
place_within elements name None = tt
place_within elements name (Some place) = producer_within elements name place (slice_get elements place) refl

source_within : (elements : List BodyElement) (c : Connection) → OnEvery (Within elements) (source_of elements c)
unfolding source_of
source_within elements c = place_within elements c.formal (place_of_id elements c.element)

pin_within : (elements : List BodyElement) (input : List Connection) → Each (Within elements) (sources_at elements input)
pin_within elements input = each_of_filter_map (Within elements) (source_of elements) input (source_within elements)

pins_within : (elements : List BodyElement) (pins : List (List Connection)) → Each (Each (Within elements)) (map (sources_at elements) pins)
pins_within elements pins = each_of_map (Each (Within elements)) (sources_at elements) pins (pin_within elements)

connector_within : (elements : List BodyElement) (t : BodyElement → Bool) (o : Option ℕ) → position_from t 0 elements ≡ o → Each (Within elements) (option_to_list (option_map (λ place. source place 0) o))
connector_within elements t None is = tt
connector_within elements t (Some place) is = let below = below_end t 0 elements place is in (omega (arith, below), tt)

continued_within : (elements : List BodyElement) (name : List ℕ) → Each (Within elements) (continued elements name)
unfolding connector_place
continued_within elements name = let t : BodyElement → Bool = λ e. is_connector_named name e.kind in connector_within elements t (position_from t 0 elements) refl

element_within : (elements : List BodyElement) (k : Kind) → Each (Each (Within elements)) (pins_with_sources elements k)
unfolding pins_with_sources
element_within elements kind.Skipped = tt
element_within elements kind.LeftRail = tt
element_within elements (kind.RightRail input) = pins_within elements (input ∷ [])
element_within elements (kind.Contact input text mods) = pins_within elements (input ∷ [])
element_within elements (kind.Coil input text mods) = pins_within elements (input ∷ [])
element_within elements (kind.In text mods) = tt
element_within elements (kind.Out input text mods) = pins_within elements (input ∷ [])
element_within elements (kind.Block type_name instance inputs in_outs outputs) = pins_within elements (map (λ (p : PinIn). p.input) inputs ++ map (λ (p : PinIn). p.input) in_outs)
element_within elements (kind.Connector name input) = pins_within elements (input ∷ [])
element_within elements (kind.Continuation name) = (continued_within elements name, tt)
element_within elements (kind.Label name) = tt
element_within elements (kind.Jump label input) = pins_within elements (input ∷ [])
element_within elements (kind.Return input) = pins_within elements (input ∷ [])

-- ---- graphs

-- the graph of a body
graph_of : (pous : List Pou) (k : ℕ) (p : Pou) → PouIsSound pous p → Each (Keeps pous rule.LocalIds) (items_in k p 0 p.body.elements) → HasGraph p.body.elements (sources_in p.body.elements)
unfolding sources_in
graph_of pous k p sound keep =
    let es = p.body.elements in
    let few = sound.body.elements in
    record {
      count = omega (arith, few);
      each_count = each_more (λ (e : BodyElement). PinsAreFew e.kind) (λ (e : BodyElement). pins_of e.kind < 2 ^ 32) es (λ e h. few_pins e.kind h) sound.body.pins;
      each_pin = pin_counts es es;
      within = each_of_flat_map (Each (Within es)) (λ (e : BodyElement). pins_with_sources es e.kind) es (λ e. element_within es e.kind);
      differ = (apart pous k p 0 [] es refl refl keep).1;
    }

graphs : (pous : List Pou) (k : ℕ) (ps : List Pou) → Each (PouIsSound pous) ps → Each (Keeps pous rule.LocalIds) (items_from k ps) → HaveGraphs ps
graphs pous k [] sound keep = tt
graphs pous k (p ∷ ps) sound keep =
    let both = each_split (Keeps pous rule.LocalIds) (items_in k p 0 p.body.elements) (items_from (k + 1) ps) keep in
    (graph_of pous k p sound.0 both.0, graphs pous (k + 1) ps sound.1 both.1)

pub have_graphs : (project : Project) → Sound project → LinkVerdict project None → HaveGraphs project.pous
have_graphs project sound v = graphs project.pous 0 project.pous sound.pous (keeps project v rule.LocalIds)

-- ---- connections

some_of : {A : Type 0} (o : Option A) → (is_none o ≡ true → ⊥) → is_some o ≡ true
some_of None h = absurd (h refl)
some_of (Some x) h = refl

-- each connection of an element that doesn't break the rule on outputs is a source
pub each_source : (elements : List BodyElement) (k : Kind) → (names_no_output elements k ≡ true → ⊥) → Each (Each (λ (c : Connection). is_some (source_of elements c) ≡ true)) (connections_of k)
each_source elements k h =
    let no : Connection → Bool = λ c. is_none (source_of elements c) in
    each_more (λ (pin : List Connection). list_any no pin ≡ true → ⊥) (Each (λ (c : Connection). is_some (source_of elements c) ≡ true)) (connections_of k)
    (λ pin keep. each_more (λ (c : Connection). no c ≡ true → ⊥) (λ (c : Connection). is_some (source_of elements c) ≡ true) pin (λ c k. some_of (source_of elements c) k) (none_of no pin keep))
    (none_of (list_any no) (connections_of k) h)

body_sources : (pous : List Pou) (k : ℕ) (p : Pou) (n : ℕ) (es : List BodyElement) → Each (Keeps pous rule.Outputs) (items_in k p n es) → Each (λ (e : BodyElement). Each (Each (λ (c : Connection). is_some (source_of p.body.elements c) ≡ true)) (connections_of e.kind)) es
unfolding breaks
body_sources pous k p n [] keep = tt
body_sources pous k p n (e ∷ es) keep = (each_source p.body.elements e.kind keep.0, body_sources pous k p (n + 1) es keep.1)

all_sources : (pous : List Pou) (k : ℕ) (ps : List Pou) → Each (Keeps pous rule.Outputs) (items_from k ps) → Each (λ (p : Pou). AreSources p.body.elements) ps
all_sources pous k [] keep = tt
all_sources pous k (p ∷ ps) keep =
    let both = each_split (Keeps pous rule.Outputs) (items_in k p 0 p.body.elements) (items_from (k + 1) ps) keep in
    (body_sources pous k p 0 p.body.elements both.0, all_sources pous (k + 1) ps both.1)

pub have_sources : (project : Project) → LinkVerdict project None → Each (λ (p : Pou). AreSources p.body.elements) project.pous
have_sources project v = all_sources project.pous 0 project.pous (keeps project v rule.Outputs)
