-- That numbers are sound and places typed are propositions: what a program enters, and which types its places have, is determined.
use mathlib.Core.HLevel.{Σ_prop_path}
use Rattle.std.proofs.Common.{◌≡◌, ℕ, ◌+◌, ◌<◌, ◌≤◌, Bool, List, Option, Some, map, sym, ap, ◌∙◌}
use Rattle.std.specs.Prelude.{slice_get, slice_range, length}
use Rattle.std.specs.Coded.{Coded, Coded-set, coded_ℕ, coded_bool, codes, le_prop, ×_prop, Unit-prop}
use Rattle.std.proofs.lemmas.Option.{same_Some}
use Rattle.plcx_types.specs.declared.ty.Ty.{Ty}
use Rattle.plcx_types.specs.declared.ty.Ty.TheVariants as ty
use Rattle.plcx_types.specs.Value.{Value}
use Rattle.plcx_funcs.specs.declared.func.Func.{Func}
use Rattle.plcx_state.specs.Stores.{HasValue}
use Rattle.plcx_steps.specs.declared.program.Operand.{Operand}
use Rattle.plcx_steps.specs.declared.program.Operand.TheVariants.{Leaf, InOut}
use Rattle.plcx_steps.specs.declared.program.Source.{Source}
use Rattle.plcx_steps.specs.declared.program.Source.TheVariants.{Constant, Wire, Memory, Variable}
use Rattle.plcx_steps.specs.declared.program.Argument.{Argument}
use Rattle.plcx_steps.specs.declared.program.Action.{Action}
use Rattle.plcx_steps.specs.declared.program.Action.TheVariants.{Fix, Write, Keep, Not, And, Or, Apply, Standard}
use Rattle.plcx_steps.specs.declared.program.Step.{Step}
use Rattle.plcx_steps.specs.declared.program.Step.TheVariants.{Act, Skip, Enter, Tell}
use Rattle.plcx_steps.specs.declared.program.Network.{Network}
use Rattle.plcx_steps.specs.declared.program.Body.{Body}
use Rattle.plcx_steps.specs.declared.program.Program.{Program}
use Rattle.plcx_steps.specs.Sound.{IsPlaced, IsWithin, AreArguments, IsSoundAction, ArePlaced, Enters, IsSoundStep, IsSoundNetwork, IsSound}
use Rattle.plcx_steps.specs.Typed.{Shape, IsPlacedOf, IsOf, Gives, AreOf, arguments_of, IsTypedAction, IsTypedEntry, IsTypedStep, IsTyped}

-- ---- sets

code_ty : Coded Ty
code_ty = hlevel codes

code_value : Coded Value
code_value = hlevel (codes, code_ty)

ty_set : IsSet Ty
ty_set = Coded-set code_ty

types_set : IsSet (Option Ty)
types_set = Coded-set (hlevel (codes, code_ty))

values_set : IsSet (Option Value)
values_set = Coded-set (hlevel (codes, code_value))

operands_set : IsSet (Option Operand)
operands_set = Coded-set (hlevel codes)

shapes_set : IsSet (Option Shape)
shapes_set = Coded-set (hlevel (codes, code_ty))

bodies_set : IsSet (Option Body)
bodies_set = Coded-set (hlevel (codes, code_value))

numbers_set : IsSet ℕ
numbers_set = Coded-set coded_ℕ

bool_set : IsSet Bool
bool_set = Coded-set coded_bool

-- what is determined by what holds of it
pub determined : {A : Type 0} (P : A → Type 0) → ((a : A) → IsProp (P a)) → ((a b : A) → P a → P b → a ≡ b) → IsProp ((a : A) × P a)
determined P prop one x y = Σ_prop_path prop (one x.0 y.0 x.1 y.1)

-- ---- numbers

placed_prop : (body : Body) (o : Operand) → IsProp (IsPlaced body o)
placed_prop body (Leaf offset) = le_prop
placed_prop body (InOut j) = le_prop

pub within_prop : (body : Body) (width : ℕ) (s : Source) → IsProp (IsWithin body width s)
within_prop body width (Constant v) = Unit-prop
within_prop body width (Wire w) = le_prop
within_prop body width (Memory m) = le_prop
within_prop body width (Variable o) = placed_prop body o

module _ (program : Program) (body : Body) where
  arguments_prop : (width first count : ℕ) → IsProp (AreArguments program body width first count)
  arguments_prop width first count = hlevel (le_prop, within_prop)

  pub action_prop : (width : ℕ) (a : Action) → IsProp (IsSoundAction program body width a)
  action_prop width (Fix source wire) = hlevel (le_prop, within_prop)
  action_prop width (Write to source) = hlevel (placed_prop, within_prop)
  action_prop width (Keep memory source) = hlevel (le_prop, within_prop)
  action_prop width (Not source wire) = hlevel (le_prop, within_prop)
  action_prop width (And left right wire) = hlevel (le_prop, within_prop)
  action_prop width (Or left right wire) = hlevel (le_prop, within_prop)
  action_prop width (Apply f t first count wire) = hlevel (le_prop, arguments_prop)
  action_prop width (Standard k leaves) = le_prop

  -- what is asked of the body that is entered
  abbrev EntersAt : (pou leaves memories first count : ℕ) → Body → Type 0
  EntersAt pou leaves memories first count callee =
      (slice_get program.bodies.items pou ≡ Some callee)
      × (callee.level < body.level)
      × (callee.first_wire + callee.width ≤ body.first_wire)
      × (callee.first_in_out + callee.in_outs ≤ body.first_in_out)
      × (leaves + callee.leaves ≤ body.leaves)
      × (memories + callee.memories ≤ body.memories)
      × (count ≡ callee.in_outs)
      × (first + count ≤ length program.bindings.items)
      × ArePlaced body (slice_range program.bindings.items first (first + count))

  at_prop : (pou leaves memories first count : ℕ) (callee : Body) → IsProp (EntersAt pou leaves memories first count callee)
  at_prop pou leaves memories first count callee = hlevel (bodies_set, numbers_set, le_prop, placed_prop)

  pub enters_prop : (pou leaves memories first count : ℕ) → IsProp (Enters program body pou leaves memories first count)
  enters_prop pou leaves memories first count x y =
      ap from (determined (EntersAt pou leaves memories first count) (at_prop pou leaves memories first count) (λ a b p q. same_Some a b (sym p.0 ∙ q.0)) (to x) (to y))
    where
      to : Enters program body pou leaves memories first count → (callee : Body) × EntersAt pou leaves memories first count callee
      to e = (e.callee, (e.is, e.level, e.wires, e.in_outs, e.leaves_fit, e.memories_fit, e.all_bound, e.there, e.placed))

      from : ((callee : Body) × EntersAt pou leaves memories first count callee) → Enters program body pou leaves memories first count
      from e = record {
        callee = e.0;
        is = e.1.0;
        level = e.1.1;
        wires = e.1.2;
        in_outs = e.1.3;
        leaves_fit = e.1.4;
        memories_fit = e.1.5;
        all_bound = e.1.6;
        there = e.1.7;
        placed = e.1.8;
      }

  step_prop : (width : ℕ) (s : Step) → IsProp (IsSoundStep program body width s)
  step_prop width (Act a) = action_prop width a
  step_prop width (Skip unless count) = within_prop body width unless
  step_prop width (Enter pou leaves memories first count) = enters_prop pou leaves memories first count
  step_prop width (Tell id number t wire) = le_prop

  network_prop : (network : Network) → IsProp (IsSoundNetwork program body network)
  network_prop network = hlevel (le_prop, step_prop)

pub sound_prop : (program : Program) → IsProp (IsSound program)
sound_prop program = hlevel (network_prop program)

-- ---- types

value_prop : (values : List Value) (i : ℕ) (t : Ty) → IsProp (HasValue values i t)
value_prop values i t x y =
    ap from (determined (λ (v : Value). (slice_get values i ≡ Some v) × (v.ty ≡ t)) (λ v. hlevel (values_set, ty_set)) (λ a b p q. same_Some a b (sym p.0 ∙ q.0)) (x.value, (x.is, x.typed)) (y.value, (y.is, y.typed)))
  where
    from : ((v : Value) × ((slice_get values i ≡ Some v) × (v.ty ≡ t))) → HasValue values i t
    from h = record { value = h.0; is = h.1.0; typed = h.1.1 }

one_type : (values : List Value) (i : ℕ) (t u : Ty) → HasValue values i t → HasValue values i u → t ≡ u
one_type values i t u h k = sym h.typed ∙ ap (λ (v : Value). v.ty) (same_Some h.value k.value (sym h.is ∙ k.is)) ∙ k.typed

placed_of_prop : (shape : Shape) (o : Operand) (t : Ty) → IsProp (IsPlacedOf shape o t)
placed_of_prop shape (Leaf offset) t = types_set _ _
placed_of_prop shape (InOut j) t = types_set _ _

one_placed : (shape : Shape) (o : Operand) (t u : Ty) → IsPlacedOf shape o t → IsPlacedOf shape o u → t ≡ u
one_placed shape (Leaf offset) t u h k = same_Some t u (sym h ∙ k)
one_placed shape (InOut j) t u h k = same_Some t u (sym h ∙ k)

of_prop : (shape : Shape) (wires : List Value) (s : Source) (t : Ty) → IsProp (IsOf shape wires s t)
of_prop shape wires (Constant v) t = ty_set _ _
of_prop shape wires (Wire w) t = value_prop wires w t
of_prop shape wires (Memory m) t = types_set _ _
of_prop shape wires (Variable o) t = placed_of_prop shape o t

gives_prop : (f : Func) (t : Ty) (types : List Ty) (u : Ty) → IsProp (Gives f t types u)
gives_prop f t types u = hlevel (bool_set, ty_set)

-- a type that is determined by one of the facts
typed_by : (P Q : Ty → Type 0) → ((t : Ty) → IsProp (P t)) → ((t : Ty) → IsProp (Q t)) → ((t u : Ty) → P t → P u → t ≡ u) → IsProp ((t : Ty) × P t × Q t)
typed_by P Q p q one x y = ap from (determined (λ t. P t × Q t) (λ t. ×_prop (p t) (q t)) (λ a b h k. one a b h.0 k.0) (x.0, (x.1, x.2)) (y.0, (y.1, y.2)))
  where
    from : ((t : Ty) × (P t × Q t)) → (t : Ty) × P t × Q t
    from h = (h.0, h.1.0, h.1.1)

module _ (shapes : List Shape) (program : Program) (shape : Shape) (wires : List Value) where
  applied_prop : (f : Func) (t : Ty) (first count wire : ℕ) → IsProp (IsTypedAction program shape wires (Apply f t first count wire))
  applied_prop f t first count wire x y = ap from (determined Rest rest_prop (λ a b h k. one_type wires wire a b h.2 k.2) (x.0, (x.1, x.2, x.3)) (y.0, (y.1, y.2, y.3)))
    where
      Rest : Ty → Type 0
      Rest u = AreOf shape wires (arguments_of program first count) × Gives f t (map (λ (a : Argument). a.ty) (arguments_of program first count)) u × HasValue wires wire u

      rest_prop : (u : Ty) → IsProp (Rest u)
      rest_prop u = hlevel (of_prop, gives_prop, value_prop)

      from : ((u : Ty) × Rest u) → IsTypedAction program shape wires (Apply f t first count wire)
      from h = (h.0, h.1.0, h.1.1, h.1.2)

  pub typed_action_prop : (a : Action) → IsProp (IsTypedAction program shape wires a)
  typed_action_prop (Fix source wire) = λ x y.
      let swap : ((t : Ty) × HasValue wires wire t × IsOf shape wires source t) → (t : Ty) × IsOf shape wires source t × HasValue wires wire t = λ h. (h.0, h.2, h.1) in
      ap swap (typed_by (λ t. HasValue wires wire t) (λ t. IsOf shape wires source t) (value_prop wires wire) (of_prop shape wires source) (one_type wires wire) (x.0, x.2, x.1) (y.0, y.2, y.1))
  typed_action_prop (Write to source) = typed_by (λ t. IsPlacedOf shape to t) (λ t. IsOf shape wires source t) (placed_of_prop shape to) (of_prop shape wires source) (one_placed shape to)
  typed_action_prop (Keep memory source) =
      typed_by (λ t. slice_get shape.memories memory ≡ Some t) (λ t. IsOf shape wires source t) (λ t. types_set _ _) (of_prop shape wires source) (λ t u h k. same_Some t u (sym h ∙ k))
  typed_action_prop (Not source wire) = ×_prop (of_prop shape wires source ty.Bool) (value_prop wires wire ty.Bool)
  typed_action_prop (And left right wire) = hlevel (of_prop, value_prop)
  typed_action_prop (Or left right wire) = hlevel (of_prop, value_prop)
  typed_action_prop (Apply f t first count wire) = applied_prop f t first count wire
  typed_action_prop (Standard k leaves) = hlevel types_set

  module _ (pou leaves memories first count : ℕ) where
    -- what an in-out is bound to
    abbrev Binding : ℕ → Ty → Type 0
    Binding j t = (o : Operand) × (slice_get (slice_range program.bindings.items first (first + count)) j ≡ Some o) × IsPlacedOf shape o t

    binding_prop : (j : ℕ) (t : Ty) → IsProp (Binding j t)
    binding_prop j t x y =
        ap from (determined (λ o. Bound o × IsPlacedOf shape o t) (λ o. ×_prop (operands_set _ _) (placed_of_prop shape o t)) (λ a b h k. same_Some a b (sym h.0 ∙ k.0)) (x.0, (x.1, x.2)) (y.0, (y.1, y.2)))
      where
        Bound : Operand → Type 0
        Bound o = slice_get (slice_range program.bindings.items first (first + count)) j ≡ Some o

        from : ((o : Operand) × (Bound o × IsPlacedOf shape o t)) → Binding j t
        from h = (h.0, h.1.0, h.1.1)

    abbrev EntryAt : Shape → Type 0
    EntryAt callee =
        (slice_get shapes pou ≡ Some callee)
        × ((i : ℕ) (t : Ty) → slice_get callee.leaves i ≡ Some t → slice_get shape.leaves (leaves + i) ≡ Some t)
        × ((i : ℕ) (t : Ty) → slice_get callee.memories i ≡ Some t → slice_get shape.memories (memories + i) ≡ Some t)
        × ((j : ℕ) (t : Ty) → slice_get callee.in_outs j ≡ Some t → Binding j t)

    entry_at_prop : (callee : Shape) → IsProp (EntryAt callee)
    entry_at_prop callee = hlevel (shapes_set, types_set, binding_prop)

    pub entry_prop : IsProp (IsTypedEntry shapes program shape pou leaves memories first count)
    entry_prop x y =
        ap from (determined EntryAt entry_at_prop (λ a b p q. same_Some a b (sym p.0 ∙ q.0)) (x.callee, (x.is, x.of_leaves, x.of_memories, x.of_in_outs)) (y.callee, (y.is, y.of_leaves, y.of_memories, y.of_in_outs)))
      where
        from : ((callee : Shape) × EntryAt callee) → IsTypedEntry shapes program shape pou leaves memories first count
        from e = record { callee = e.0; is = e.1.0; of_leaves = e.1.1; of_memories = e.1.2; of_in_outs = e.1.3 }

  typed_step_prop : (s : Step) → IsProp (IsTypedStep shapes program shape wires s)
  typed_step_prop (Act a) = typed_action_prop a
  typed_step_prop (Skip unless count) = Unit-prop
  typed_step_prop (Enter pou leaves memories first count) = entry_prop pou leaves memories first count
  typed_step_prop (Tell id number t wire) = value_prop wires wire t

pub typed_prop : (shapes : List Shape) (program : Program) → IsProp (IsTyped shapes program)
typed_prop shapes program = hlevel (typed_step_prop shapes program)
