-- Where a POU of a ready unit is prepared, and the function blocks that it calls.
use Rattle.std.proofs.Common.{◌≡◌, ℕ, zero, suc, ◌+◌, ◌<◌, ◌≤◌, List, [], ◌∷◌, ◌++◌, length, map, Option, Some, None, refl, sym, ap, ◌∙◌, subst, arith}
use Rattle.std.specs.Prelude.{slice_get, slice_range}
use Rattle.std.specs.List.{Contains}
use Rattle.std.proofs.lemmas.List.{length-map}
use Rattle.std.proofs.lemmas.Option.{same_Some}
use Rattle.plcx_types.specs.Name.{in_lower_case}
use Rattle.plcx_types.specs.TypeName.{type_named}
use Rattle.plcx_types.specs.Lists.{Each}
use Rattle.plcx_types.specs.Value.{Value}
use Rattle.plcx_std.specs.declared.kind.StdKind.{StdKind}
use Rattle.plcx_std.specs.Kind.{kind_named}
use Rattle.plcx_std.specs.Pins.{Pin, pins}
use Rattle.plcx_meaning.specs.Tree.{Argument, PouText}
use Rattle.plcx_meaning.specs.Layout.{Variable, variables_of, variable_named, World, composed, parts_of, Scope}
use Rattle.plcx_meaning.specs.Execute.{block_named, world_of, scope_of}
use Rattle.plcx_meaning.specs.Typed.{variable_in}
use Rattle.plcx_meaning.specs.Ready.{CallIsReady, PouIsReady, IsReady}
use Rattle.plcx_meaning.proofs.Lists.{each_at}
use Rattle.plcx_meaning.proofs.StuckBodies.{block_has}
use Rattle.plcx_meaning.proofs.Units.{variable_there}
use Rattle.plcx_steps.specs.declared.program.Operand.{Operand}
use Rattle.plcx_steps.specs.declared.program.Program.{Program}
use Rattle.plcx_steps.specs.Typed.{Shape}
use Rattle.plcx_numbered.specs.Numbers.{places, depth, in_out_names}
use Rattle.plcx_numbered.specs.Numbers.{Place as Lying}
use Rattle.plcx_numbered.specs.Right.{HasAt}
use Rattle.plcx_numbered.proofs.Leaves.{composed_standard}
use Rattle.plcx_numbered.proofs.Variables.{pins_places}
use Rattle.plcx_runnable.proofs.Lists.{mapped_at}
use Rattle.plcx_text_steps.specs.declared.text.Text.{Text}
use Rattle.plcx_text_numbered.specs.Prepared.{Numbering}
use Rattle.plcx_text_numbered.specs.Numbers.{places_of, leaf_number, numbering, bound_operand, bound_operands, place_named}
use Rattle.plcx_text_numbered.specs.Texts.{Owner, Parts, inner_in_outs, prepared, IsPouOf, IsTextOf}
use Rattle.plcx_text_runnable.specs.Shapes.{types_of}
use Rattle.plcx_text_runnable.proofs.Instances.{IsUserBlock, is_user, composed_block, block_known, place_block, within_place, parts_found}
use Rattle.plcx_text_runnable.proofs.Bindings.{IsInstanceOf, instance_of}

-- a POU of a ready unit that is prepared in a program and a text
pub record Ground : Type 0 where
  pub unit : List PouText
  pub ready : IsReady unit
  pub program : Program
  pub text : Text
  pub whole : IsTextOf unit program text
  pub number : ℕ
  pub pou : PouText
  pub own : PouIsReady unit pou
  pub at : IsPouOf unit program text number pou

abbrev pub vs : Ground → List Variable
vs g = variables_of g.pou.blocks

abbrev pub world : Ground → World
world g = world_of g.unit

abbrev pub scope : Ground → Scope
scope g = scope_of g.unit g.pou

abbrev pub num : Ground → Numbering
num g = numbering g.unit g.pou

abbrev pub wires : Ground → List Value
wires g = g.at.entry.wires.items

abbrev pub shape : Ground → Shape
shape g = types_of g.unit g.pou

abbrev pub owner : Ground → Owner
owner g = record { unit = g.unit; pou = g.pou; number = g.number }

abbrev pub parts : Ground → Parts
parts g = prepared g.program g.text (wires g)

-- ---- what is called

-- the instance of a call
pub called : (g : Ground) (i : List ℕ) (args : List Argument) → (h : CallIsReady (scope g) i args) → IsInstanceOf (variable_in (scope g) i) h.type
called g i args h = instance_of (world g) (variable_in (scope g) i) h.type h.instance

-- a function block of the unit that is called
pub record IsCallee (g : Ground) (i : List ℕ) (v : Variable) : Type 0 where
  pub pou : PouText
  pub user : IsUserBlock g.unit v pou
  pub own : PouIsReady g.unit pou
  pub is : slice_get g.unit (place_named v.ty g.unit) ≡ Some pou
  pub at : IsPouOf g.unit g.program g.text (place_named v.ty g.unit) pou
  pub inside : parts_of (world g) (variable_in (scope g) i) ≡ variables_of pou.blocks

pub callee : (g : Ground) (i : List ℕ) (v : Variable) → variable_in (scope g) i ≡ Some v → type_named v.ty ≡ None → kind_named v.ty ≡ None → IsCallee g i v
callee g i v found composite user =
    let own = each_at _ (vs g) v g.own.variables (variable_there (in_lower_case i) (vs g) v found) in
    let q = block_known g.unit g.pou v own composite user in
    let is = place_block g.unit g.ready.distinct v.ty q.0 q.1.block in
    record {
      pou = q.0;
      user = q.1;
      own = block_has (PouIsReady g.unit) v.ty g.unit q.0 g.ready.pous q.1.block;
      is = is;
      at = g.whole.pous (place_named v.ty g.unit) q.0 is;
      inside = parts_found g.unit g.pou g.own i v found composite ∙ composed_block g.unit v q.0 q.1;
    }

-- the leaves of a standard block
pub standard_place : (g : Ground) (i : List ℕ) (v : Variable) → variable_in (scope g) i ≡ Some v → type_named v.ty ≡ None → (k : StdKind) → kind_named v.ty ≡ Some k → (j : ℕ) (q : Pin) → slice_get (pins k) j ≡ Some q
    → slice_get (places_of g.unit (vs g)) (leaf_number g.unit (in_lower_case i) (vs g) + j) ≡ Some (in_lower_case q.name ∷ in_lower_case i ∷ [], q.ty)
standard_place g i v found composite k e j q there =
    within_place g.unit g.pou g.own i v found composite j (in_lower_case q.name ∷ []) q.ty
    (ap (λ l. slice_get l j) (ap (places depth (world g)) (composed_standard (world g) v.ty k e) ∙ pins_places 17 (world g) k)
    ∙ mapped_at (λ (r : Pin). (in_lower_case r.name ∷ [], r.ty)) (pins k) j q there)

-- what its in-outs are bound to stands among the program's bindings
pub bindings_are : (g : Ground) (i : List ℕ) (args : List Argument) (first : ℕ) → HasAt g.program.bindings.items first (bound_operands (num g) args (inner_in_outs (owner g) i))
    → slice_range g.program.bindings.items first (first + length (inner_in_outs (owner g) i)) ≡ bound_operands (num g) args (inner_in_outs (owner g) i)
bindings_are g i args first has =
    ap (λ n. slice_range g.program.bindings.items first (first + n)) (sym (length-map (inner_in_outs (owner g) i) (bound_operand (num g) args))) ∙ has
