-- The numbers of a unit's leaves and wires, by what is declared.
use Rattle.std.specs.Prelude.{ℕ, zero, suc, ◌+◌, Bool, true, false, List, [], ◌∷◌, Option, Some, None, length, map, filter, unwrap_or, if◌then◌else◌}
use Rattle.std.specs.Str.{bytes_eq}
use Rattle.plcx_types.specs.declared.ty.Ty.{Ty}
use Rattle.plcx_types.specs.declared.ty.Ty.TheVariants as ty
use Rattle.plcx_types.specs.Name.{in_lower_case}
use Rattle.plcx_types.specs.TypeName.{type_named}
use Rattle.plcx_types.specs.Value.{Value}
use Rattle.plcx_funcs.specs.Applied.{value}
use Rattle.plcx_meaning.specs.Tree.{Class, Temp, InOut, Expression, Name, Argument, PouText}
use Rattle.plcx_meaning.specs.Layout.{Variable, variables_of, variable_named, initial_value, parts_of}
use Rattle.plcx_meaning.specs.Execute.{world_of, scope_of}
use Rattle.plcx_meaning.specs.Ready.{user_block}
use Rattle.plcx_steps.specs.declared.program.Operand.{Operand}
use Rattle.plcx_steps.specs.declared.program.Operand.TheVariants as operand
use Rattle.plcx_numbered.specs.Numbers.{variable_places, places, first_leaf, highest, number_of, in_out_names, depth, inner_depth}
use Rattle.plcx_numbered.specs.Numbers.{Place as Lying}
use Rattle.plcx_text_numbered.specs.Prepared.{Place, Held, Stored, Numbering}
use Rattle.plcx_text_numbered.specs.Statements.{PouPlan}

-- ---- leaves

-- the leaves of an instance with these variables, by their numbers
abbrev pub places_of : List PouText → List Variable → List Lying
places_of unit vs = places depth (world_of unit) vs

-- how many leaves a variable has
abbrev pub leaf_count : List PouText → Variable → ℕ
leaf_count unit v = length (variable_places (places inner_depth (world_of unit)) (world_of unit) v)

-- the number of the first leaf of the variable of a name without case
abbrev pub leaf_number : List PouText → List ℕ → List Variable → ℕ
leaf_number unit key vs = first_leaf (leaf_count unit) key vs

-- ---- temporaries

abbrev pub is_temporary : Variable → Bool
is_temporary v = elim v.class [ Temp ↦ true | _ ↦ false ]

-- the temporaries among variables, by their names without case
abbrev pub temporary_names : List Variable → List (List ℕ)
temporary_names vs = map (λ (v : Variable). in_lower_case v.name) (filter is_temporary vs)

-- the type of a variable that is no instance
abbrev pub own_type : Variable → Ty
own_type v = unwrap_or (type_named v.ty) ty.Bool

-- what a temporary begins with
abbrev pub first_value : Variable → Value
first_value v = value (own_type v) (initial_value v.initial)

abbrev pub temporary_values : List Variable → List Value
temporary_values vs = map first_value (filter is_temporary vs)

-- ---- names

-- where the value of a variable of this class stands, by its name without case
abbrev pub place_by : List PouText → List Variable → List ℕ → Class → Place
place_by unit vs key class = elim class [
  | Temp ↦ Held (number_of bytes_eq (temporary_names vs) key)
  | InOut ↦ Stored (operand.InOut (number_of bytes_eq (in_out_names vs) key))
  | _ ↦ Stored (operand.Leaf (leaf_number unit key vs))
]

-- and where that of the variable stands which was found
abbrev pub place_found : List PouText → List Variable → List ℕ → Option Variable → Place
place_found unit vs key None = Stored (operand.Leaf 0)
place_found unit vs key (Some v) = place_by unit vs key v.class

-- the numbers that the body of a POU uses
abbrev pub numbering : List PouText → PouText → Numbering
numbering unit p = record {
  scope = scope_of unit p;
  place = λ x. place_found unit (variables_of p.blocks) (in_lower_case x) (variable_named (in_lower_case x) (variables_of p.blocks));
  inner = λ i x.
      leaf_number unit (in_lower_case i) (variables_of p.blocks)
      + leaf_number unit (in_lower_case x) (parts_of (world_of unit) (variable_named (in_lower_case i) (variables_of p.blocks)));
}

-- ---- in-outs

-- the leaf or in-out at a place; a temporary is none
abbrev pub operand_at : Place → Operand
operand_at (Held w) = operand.Leaf 0
operand_at (Stored o) = o

-- the variable that an expression names
abbrev pub operand_in : Numbering → Expression → Operand
operand_in c (Name x) = operand_at (c.place x)
operand_in c _ = operand.Leaf 0

-- what the in-out of this name without case is bound to
abbrev pub bound_operand : Numbering → List Argument → List ℕ → Operand
bound_operand c [] key = operand.Leaf 0
bound_operand c (a ∷ rest) key = if bytes_eq (in_lower_case a.formal) key then operand_in c a.value else bound_operand c rest key

-- and what in-outs of these names are bound to
abbrev pub bound_operands : Numbering → List Argument → List (List ℕ) → List Operand
bound_operands c args names = map (bound_operand c args) names

-- ---- POUs

-- one level more than the function block of the unit that the variable is an instance of
abbrev pub instance_level : (PouText → ℕ) → List PouText → Variable → ℕ
instance_level inner unit v = elim (user_block unit v) [ Some q ↦ suc (inner q) | None ↦ 0 ]

-- how many levels of function blocks are below a POU, so many at most
abbrev pub level : ℕ → List PouText → PouText → ℕ
level zero unit p = 0
level (suc n) unit p = highest (instance_level (level n unit) unit) (variables_of p.blocks)

-- the place of the POU of a name, whatever the case of its letters
abbrev pub place_named : List ℕ → List PouText → ℕ
place_named name [] = 0
place_named name (p ∷ ps) = if bytes_eq (in_lower_case p.name) (in_lower_case name) then 0 else place_named name ps + 1

-- what is known of a POU
abbrev pub plan_of : List PouText → PouText → PouPlan
plan_of unit p = record {
  pou = p;
  level = level inner_depth unit p;
  plan = record {
    paths = map (λ (x : Lying). x.0) (places_of unit (variables_of p.blocks));
    in_outs = in_out_names (variables_of p.blocks);
    temporaries = temporary_names (variables_of p.blocks);
  };
}

-- and of each POU, in the order of the unit
abbrev pub plans_of : List PouText → List PouPlan
plans_of unit = map (plan_of unit) unit
