-- The wires of a network have the types of the outputs that they stand for; the spare ones are truth values.
use Rattle.std.proofs.Common.{◌≡◌, ℕ, ◌+◌, ◌-◌, ◌<◌, ◌≤◌, pos, List, ◌++◌, length, map, replicate, Some, refl, sym, ap, ap₂, ◌∙◌, arith}
use Rattle.std.specs.Prelude.{slice_get}
use Rattle.std.specs.List.{flat_map, Contains}
use Rattle.std.proofs.lemmas.List.{length-map}
use Rattle.plcx_types.specs.declared.ty.Ty.TheVariants as ty
use Rattle.plcx_types.specs.Name.{in_lower_case}
use Rattle.plcx_types.specs.Value.{Value}
use Rattle.plcx_funcs.specs.Applied.{value}
use Rattle.plcx_meaning.specs.Diagram.{Port, ports, DiagramElement, Pou, Project}
use Rattle.plcx_meaning.specs.Fits.{fixed_by, PouFits, PouNests, ProjectFits}
use Rattle.plcx_meaning.proofs.Lists.{contains_flat_map, contains_map}
use Rattle.plcx_meaning.proofs.Lookups.{map_flat}
use Rattle.plcx_state.specs.Stores.{HasValue}
use Rattle.plcx_steps.specs.Numbered.{bit}
use Rattle.plcx_numbered.specs.Agreeing.{AreApart, Pin}
use Rattle.plcx_numbered.specs.Numbers.{number_of, same_pin, pins_of, spare_wires}
use Rattle.plcx_numbered.specs.Programs.{network_wires}
use Rattle.plcx_numbered.proofs.Numbers.{place_in, there_at}
use Rattle.plcx_numbered.proofs.Leaves.{past_front, at_front}
use Rattle.plcx_numbered.proofs.Sources.{wire_right}
use Rattle.plcx_runnable.proofs.Lists.{mapped_at, map_map, flat_all, replicate_at}

-- the outputs of elements, each with the number of its element
abbrev pub outputs : List DiagramElement → List (ℕ × Port)
outputs es = flat_map fixed_by es

abbrev pin_of : ℕ × Port → Pin
pin_of x = (x.0, in_lower_case x.1.pin)

abbrev begun : ℕ × Port → Value
begun x = value x.1.ty (pos 0)

outputs_pins : (es : List DiagramElement) → map pin_of (outputs es) ≡ pins_of es
outputs_pins es = map_flat pin_of fixed_by es ∙ flat_all _ _ (λ (e : DiagramElement). map_map pin_of (λ (o : Port). (e.id, o)) (ports e.kind)) es

outputs_begun : (es : List DiagramElement) → map begun (outputs es) ≡ map (λ (o : Port). value o.ty (pos 0)) (flat_map (λ (e : DiagramElement). ports e.kind) es)
outputs_begun es =
    map_flat begun fixed_by es
    ∙ flat_all _ _ (λ (e : DiagramElement). map_map begun (λ (o : Port). (e.id, o)) (ports e.kind)) es
    ∙ sym (map_flat (λ (o : Port). value o.ty (pos 0)) (λ (e : DiagramElement). ports e.kind) es)

outputs_wires : (es : List DiagramElement) → network_wires es ≡ map begun (outputs es) ++ replicate (spare_wires es) (bit (pos 0))
outputs_wires es = ap (λ l. l ++ replicate (spare_wires es) (bit (pos 0))) (sym (outputs_begun es))

outputs_long : (es : List DiagramElement) → length (map begun (outputs es)) ≡ length (pins_of es)
outputs_long es = length-map (outputs es) begun ∙ sym (length-map (outputs es) pin_of) ∙ ap length (outputs_pins es)

-- an output of an element is one of the network's
pub output_of : (es : List DiagramElement) (e : DiagramElement) (o : Port) → Contains es e → Contains (ports e.kind) o → Contains (outputs es) (e.id, o)
output_of es e o there h = contains_flat_map fixed_by es e (e.id, o) there (contains_map (λ (q : Port). (e.id, q)) (ports e.kind) o h)

-- the spare wires
pub spare_typed : (es : List DiagramElement) (w : ℕ) → length (pins_of es) ≤ w → w < length (pins_of es) + spare_wires es → HasValue (network_wires es) w ty.Bool
spare_typed es w past low =
    let long = outputs_long es in
    let j = w - length (map begun (outputs es)) in
    let at : w ≡ length (map begun (outputs es)) + j = omega arith in
    let inside : j < spare_wires es = omega arith in
    record {
      value = bit (pos 0);
      is = ap₂ slice_get (outputs_wires es) at ∙ past_front (map begun (outputs es)) (replicate (spare_wires es) (bit (pos 0))) j ∙ replicate_at (spare_wires es) j (bit (pos 0)) inside;
      typed = refl;
    }

-- and those of outputs
pub wire_typed : (project : Project) (fits : ProjectFits project) (p : Pou) (one : PouFits project p) (nests : PouNests 16 project p) (es : List DiagramElement) → AreApart (pins_of es) → (id : ℕ) (o : Port) → Contains (outputs es) (id, o)
    → HasValue (network_wires es) (number_of same_pin (pins_of es) (id, o.pin)) o.ty
wire_typed project fits p one nests es apart id o there =
    let at = place_in (outputs es) (id, o) there in
    let own : slice_get (pins_of es) at.0 ≡ Some (id, in_lower_case o.pin) = ap (λ l. slice_get l at.0) (sym (outputs_pins es)) ∙ mapped_at pin_of (outputs es) at.0 (id, o) at.1 in
    let same = apart.apart (number_of same_pin (pins_of es) (id, o.pin)) at.0 (id, in_lower_case o.pin)
    (wire_right project fits p one nests es 0 id o.pin (there_at (pins_of es) at.0 (id, in_lower_case o.pin) own)) own in
    record {
      value = value o.ty (pos 0);
      is = ap₂ slice_get (outputs_wires es) same ∙ at_front (map begun (outputs es)) (replicate (spare_wires es) (bit (pos 0))) at.0 (value o.ty (pos 0)) (mapped_at begun (outputs es) at.0 (id, o) at.1);
      typed = refl;
    }
