-- A call of a function on values with their types. Where they do not suit its pins the call has no meaning.
use Rattle.std.specs.Prelude.{ℕ, ◌+◌, Bool, true, ◌&&◌, List, [], ◌∷◌, Option, Some, None, map, length, slice_get, if◌then◌else◌}
use Rattle.std.specs.declared.result.Result.{Result}
use Rattle.std.specs.declared.result.Result.TheVariants.{Ok, Err}
use Rattle.plcx_types.specs.declared.fault.Fault.{Fault}
use Rattle.plcx_types.specs.declared.ty.Ty.{Ty}
use Rattle.plcx_types.specs.Value.{Value}
use Rattle.plcx_funcs.specs.declared.func.Func.{Func}
use Rattle.plcx_funcs.specs.declared.func.Func.TheVariants as func
use Rattle.plcx_funcs.specs.declared.pins.Class.TheVariants as class
use Rattle.plcx_funcs.specs.Pins.{can_have, input_class, output_class}
use Rattle.plcx_funcs.specs.Applied.{value, applied, takes, suits}

-- a value, a fault, or no meaning
pub data Answer (A : Type 0) : Type 0 where
  Given : A → Answer A
  Faulty : Fault → Answer A
  Missing : Answer A

-- what follows a value
abbrev pub on_value : {A B : Type 0} → Answer A → (A → Answer B) → Answer B
on_value (Given x) go = go x
on_value (Faulty fault) go = Faulty fault
on_value Missing go = Missing

-- the input that tells the type of the group
abbrev pub group_index : Func → ℕ
group_index func.Sel = 1
group_index func.Mux = 1
group_index _ = 0

-- the type of the group, by the types of the inputs
abbrev pub group_of : Func → List Ty → Option Ty
group_of f types = slice_get types (group_index f)

-- inputs of these types, from this place on, suit a function at the type of its group
abbrev pub all_suit : Func → Ty → ℕ → List Ty → Bool
all_suit f t i [] = true
all_suit f t i (u ∷ us) = suits (input_class f i) t u && all_suit f t (i + 1) us

-- inputs of these types suit a function at the type of its group, in their number and each by itself
abbrev pub can_apply : Func → Ty → List Ty → Bool
can_apply f t types = can_have f (length types) && (takes f t && all_suit f t 0 types)

-- the type of OUT where the group has this type
abbrev pub out_type : Func → Ty → Ty
out_type f t = elim (output_class f) [ class.Group ↦ t | class.Lone ↦ t | class.Fixed u ↦ u ]

-- a result, with the type of OUT
abbrev pub answer : Ty → Result Value Fault → Answer Value
answer t (Ok v) = Given (value t v.n)
answer t (Err fault) = Faulty fault

-- a call where the inputs suit the type of the group; without a meaning elsewhere
abbrev pub call_at : Func → List Value → Option Ty → Answer Value
call_at f args None = Missing
call_at f args (Some t) = if can_apply f t (map (λ (v : Value). v.ty) args) then answer (out_type f t) (applied f t args) else Missing

-- a call at the type that its inputs tell
abbrev pub call_function : Func → List Value → Answer Value
call_function f args = call_at f args (group_of f (map (λ (v : Value). v.ty) args))

-- a function by its name
abbrev pub call_named : Option Func → List Value → Answer Value
call_named None args = Missing
call_named (Some f) args = call_function f args
