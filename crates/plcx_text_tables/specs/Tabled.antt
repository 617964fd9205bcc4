-- The numbers of the variables of a POU, in order and by their names.
use Rattle.std.specs.Prelude.{ℕ, ◌+◌, Bool, true, false, List, [], ◌∷◌, Option, Some, None, map, filter, option_map, slice_get}
use Rattle.std.specs.Option.{option_and_then}
use Rattle.std.specs.List.{sum_by}
use Rattle.plcx_types.specs.declared.ty.Ty.{Ty}
use Rattle.plcx_types.specs.declared.ty.Ty.TheVariants as ty
use Rattle.plcx_types.specs.Value.{Value}
use Rattle.plcx_funcs.specs.Applied.{value}
use Rattle.plcx_meaning.specs.Tree.{Class, InOut, Temp}
use Rattle.plcx_meaning.specs.Layout.{initial_value}
use Rattle.plcx_conditions.specs.Placed.{Literal}
use Rattle.plcx_steps.specs.declared.program.Operand.TheVariants as operand
use Rattle.plcx_st.specs.Meant.{class_meant}
use Rattle.plcx_known.specs.declared.types.VarType.{VarType}
use Rattle.plcx_known.specs.declared.types.VarType.TheVariants as type
use Rattle.plcx_known.specs.Owned.{Typed, name_of}
use Rattle.plcx_known.specs.Names.{first_place}
use Rattle.plcx_text_numbered.specs.Prepared.{Place, Held, Stored}
use Rattle.plcx_text_tables.specs.declared.numbers.Place as code
use Rattle.plcx_text_tables.specs.declared.numbers.Place.TheVariants as place
use Rattle.plcx_text_tables.specs.declared.numbers.Number as given
use Rattle.plcx_text_tables.specs.declared.numbers.Table as made
use Rattle.plcx_text_tables.specs.Counts.{leaves_in}

-- a variable by its numbers: the leaves before it, where its value stands, its class, its type, and the name of that
pub record Numbered : Type 0 where
  pub leaf : ℕ
  pub place : Place
  pub class : Class
  pub type : VarType
  pub named : List ℕ

-- how many leaves, temporaries and in-outs stand before a variable
pub record Count : Type 0 where
  pub leaves : ℕ
  pub temporaries : ℕ
  pub in_outs : ℕ

-- where the value of a variable of this class stands
abbrev pub standing : Count → Class → Place
standing c class = elim class [ Temp ↦ Held c.temporaries | InOut ↦ Stored (operand.InOut c.in_outs) | _ ↦ Stored (operand.Leaf c.leaves) ]

-- what stands before the next one, behind one of so many leaves
abbrev pub counted : Count → Class → ℕ → Count
counted c class leaves = elim class [
  | Temp ↦ record { leaves = c.leaves + leaves; temporaries = c.temporaries + 1; in_outs = c.in_outs }
  | InOut ↦ record { leaves = c.leaves + leaves; temporaries = c.temporaries; in_outs = c.in_outs + 1 }
  | _ ↦ record { leaves = c.leaves + leaves; temporaries = c.temporaries; in_outs = c.in_outs }
]

-- a variable behind so many
abbrev pub numbered : Count → Typed → Numbered
numbered c t = record {
  leaf = c.leaves;
  place = standing c t.variable.class;
  class = t.variable.class;
  type = t.type;
  named = t.variable.declaration.ty.name;
}

-- the variables of a POU, behind so many, by the leaves of POUs
abbrev pub all_numbered : List ℕ → Count → List Typed → List Numbered
all_numbered counts c [] = []
all_numbered counts c (t ∷ ts) = numbered c t ∷ all_numbered counts (counted c t.variable.class (leaves_in 17 counts t)) ts

abbrev pub no_count : Count
no_count = record { leaves = 0; temporaries = 0; in_outs = 0 }

abbrev pub is_in_out : Typed → Bool
is_in_out t = elim t.variable.class [ InOut ↦ true | _ ↦ false ]

abbrev pub is_temporary : Typed → Bool
is_temporary t = elim t.variable.class [ Temp ↦ true | _ ↦ false ]

-- the type of a variable that is no instance
abbrev pub type_in : VarType → Ty
type_in (type.Elementary t) = t
type_in _ = ty.Bool

-- what a temporary begins with
abbrev pub first_in : Typed → Value
first_in t = value (type_in t.type) (initial_value (option_map (λ (l : Literal). l.value) t.variable.declaration.initial))

-- a table of a POU: the names of its variables and their numbers, how many leaves they have, the names of its in-outs, and what its temporaries begin with
pub record Shown : Type 0 where
  pub names : List (List ℕ)
  pub numbers : List Numbered
  pub leaves : ℕ
  pub in_outs : List (List ℕ)
  pub temporaries : List Value

abbrev pub table_of : List ℕ → List Typed → Shown
table_of counts ts = record {
  names = map name_of ts;
  numbers = all_numbered counts no_count ts;
  leaves = sum_by (leaves_in 17 counts) ts;
  in_outs = map name_of (filter is_in_out ts);
  temporaries = map first_in (filter is_temporary ts);
}

-- the variable of a name
abbrev pub number_named : Shown → List ℕ → Option Numbered
number_named t name = option_and_then (slice_get t.numbers) (first_place name t.names)

-- the leaves before it, and all of them where there is none
abbrev pub leaf_named : Shown → List ℕ → ℕ
leaf_named t name = elim (number_named t name) [ Some n ↦ n.leaf | None ↦ t.leaves ]

-- ---- what the code has

abbrev pub shown_place : code.Place → Place
shown_place (place.Held w) = Held w
shown_place (place.Stored o) = Stored o

abbrev pub shown_number : given.Number → Numbered
shown_number n = record { leaf = n.leaf; place = shown_place n.place; class = class_meant n.class; type = n.ty; named = n.named.now }

abbrev pub shown_table : made.Table → Shown
shown_table t = record { names = t.names; numbers = map shown_number t.numbers.items; leaves = t.leaves; in_outs = map (λ s. s.now) t.in_outs.items; temporaries = t.temporaries.items }
