-- The rules 34 to 36 as tests, by the marks of the types that come to groups. Only proofs are served by it.
use Rattle.std.specs.Prelude.{ℕ, Bool, true, false, not, ◌&&◌, ◌||◌, List, Option, Some, None, length, nat_le, if◌then◌else◌}
use Rattle.std.specs.Bool.{Decides}
use Rattle.std.specs.List.{list_any}
use Rattle.plcx_types.specs.declared.ty.Ty.{Ty}
use Rattle.plcx_types.specs.declared.ty.Ty.TheVariants as ty
use Rattle.plcx_types.specs.TypeName.{same_ty, all_types}
use Rattle.plcx_types.specs.Range.{fits}
use Rattle.plcx_funcs.specs.Types.{is_allowed, is_whole, is_bool, is_time}
use Rattle.plcx_funcs.specs.declared.pins.Class.{Class}
use Rattle.plcx_funcs.specs.declared.pins.Class.TheVariants as class
use Rattle.plcx_model.specs.declared.source.Source.{Source}
use Rattle.plcx_rules.specs.declared.form.Pin.{Pin}
use Rattle.plcx_rules.specs.declared.form.Gives.{Gives}
use Rattle.plcx_rules.specs.declared.form.Gives.TheVariants.{Typed, Grouped, Untyped, Nothing}
use Rattle.plcx_rules.specs.declared.form.Out.{Out}
use Rattle.plcx_rules.specs.declared.form.Outputs.{Outputs}
use Rattle.plcx_rules.specs.declared.form.Outputs.TheVariants.{Absent, Single, Listed}
use Rattle.plcx_rules.specs.declared.form.Grouping.{Grouping}
use Rattle.plcx_rules.specs.declared.form.Grouping.TheVariants.{Apart, Function, Passing}
use Rattle.plcx_rules.specs.declared.form.Form.{Form}
use Rattle.plcx_rules.specs.Types.{Sheet, output_at, gives_at, is_untyped, AtGroup, HasType}
use Rattle.plcx_typing.specs.Closure.{is_marked}

-- the marks are those of the types of groups
abbrev pub AreMarks : Sheet → List Bool → Type 0
AreMarks s marks = (e : ℕ) (t : Ty) → Decides (is_marked marks e t) (HasType s (AtGroup e) t)

-- ---- types of outputs and pins

abbrev pub gives_has : List Bool → ℕ → Gives → Ty → Bool
gives_has marks e (Typed u) t = same_ty u t
gives_has marks e Grouped t = is_marked marks e t
gives_has marks e (Untyped n) t = false
gives_has marks e Nothing t = false

abbrev pub source_has : Sheet → List Bool → Ty → Source → Bool
source_has s marks t o = gives_has marks o.element (gives_at s o) t

abbrev pub is_literal : Sheet → Source → Bool
is_literal s o = is_untyped (gives_at s o)

abbrev pub lone_has : Sheet → List Bool → List Source → Ty → Bool
lone_has s marks sources t = list_any (source_has s marks t) sources || (same_ty ty.Dint t && list_any (is_literal s) sources)

-- a pin of this class, of an element, with these sources, has a type
abbrev pub class_has : Sheet → List Bool → ℕ → Option Class → List Source → Ty → Bool
class_has s marks e (Some (class.Fixed u)) sources t = same_ty u t
class_has s marks e (Some class.Group) sources t = is_marked marks e t
class_has s marks e (Some class.Lone) sources t = lone_has s marks sources t
class_has s marks e None sources t = false

abbrev pub pin_has : Sheet → List Bool → Pin → List Source → Ty → Bool
pin_has s marks p sources t = class_has s marks p.element p.class sources t

abbrev pub is_lone : Option Class → Bool
is_lone (Some class.Lone) = true
is_lone (Some class.Group) = false
is_lone (Some (class.Fixed t)) = false
is_lone None = false

-- ---- rule 35 at a pin

-- a type that a pin has may not be there
abbrev pub is_barred : Sheet → Pin → List Source → Ty → Bool
is_barred s p sources t = (is_lone p.class && not (is_whole t)) || ((is_time t && list_any (is_literal s) sources) || (not (is_bool t) && (p.modified || nat_le 2 (length sources))))

abbrev pub pin_disagrees_at : Sheet → List Bool → Pin → List Source → Ty → Bool
pin_disagrees_at s marks p sources t = (list_any (source_has s marks t) sources && not (pin_has s marks p sources t)) || (pin_has s marks p sources t && is_barred s p sources t)

abbrev pub pin_disagrees : Sheet → List Bool → Pin → List Source → Bool
pin_disagrees s marks p sources = list_any (pin_disagrees_at s marks p sources) all_types

-- ---- rules 34 and 35 at an element

abbrev pub is_apart : Grouping → Bool
is_apart Apart = true
is_apart (Function allowed) = false
is_apart Passing = false

abbrev pub is_passing : Grouping → Bool
is_passing Apart = false
is_passing (Function allowed) = false
is_passing Passing = true

-- the group may not have a type
abbrev pub bars : Grouping → Ty → Bool
bars Apart t = false
bars (Function allowed) t = not (is_allowed allowed t)
bars Passing t = false

-- an element's pins share a type beside this one
abbrev pub has_other : List Bool → ℕ → Ty → Bool
has_other marks e t = list_any (λ u. is_marked marks e u && not (same_ty t u)) all_types

abbrev pub group_disagrees_at : List Bool → ℕ → Grouping → Ty → Bool
group_disagrees_at marks e g t = is_marked marks e t && (bars g t || (not (is_passing g) && has_other marks e t))

abbrev pub operand_disagrees : Option Ty → Bool
operand_disagrees (Some t) = not (is_bool t)
operand_disagrees None = false

abbrev pub out_disagrees : List Bool → ℕ → Out → Bool
out_disagrees marks e o = o.negated && list_any (λ t. gives_has marks e o.gives t && not (is_bool t)) all_types

abbrev pub outputs_disagree : List Bool → ℕ → Outputs → Bool
outputs_disagree marks e Absent = false
outputs_disagree marks e (Single o) = out_disagrees marks e o
outputs_disagree marks e (Listed os) = list_any (out_disagrees marks e) os

abbrev pub form_disagrees : List Bool → ℕ → Form → Bool
form_disagrees marks e f = list_any (group_disagrees_at marks e f.grouping) all_types || (operand_disagrees f.operand || outputs_disagree marks e f.outputs)

abbrev pub has_no_type : List Bool → ℕ → Grouping → Bool
has_no_type marks e g = not (is_apart g) && not (list_any (is_marked marks e) all_types)

-- ---- untyped literals

abbrev pub taken_has : Sheet → List Bool → Pin → List Source → Ty → Bool
taken_has s marks p sources t = if is_lone p.class then same_ty ty.Dint t else pin_has s marks p sources t

-- the output of an inVariable
abbrev pub only : ℕ → Source
only e = record { element = e; pin = 0 }

abbrev pub literal_disagrees : Sheet → List Bool → Pin → List Source → ℕ → Bool
literal_disagrees s marks p sources e = (output_at s (only e)).negated && list_any (λ t. taken_has s marks p sources t && not (is_bool t)) all_types

abbrev pub number_outside : Sheet → List Bool → Pin → List Source → Gives → Bool
number_outside s marks p sources (Untyped n) = list_any (λ t. taken_has s marks p sources t && not (fits t n)) all_types
number_outside s marks p sources (Typed t) = false
number_outside s marks p sources Grouped = false
number_outside s marks p sources Nothing = false

abbrev pub literal_outside : Sheet → List Bool → Pin → List Source → ℕ → Bool
literal_outside s marks p sources e = number_outside s marks p sources (gives_at s (only e))
