-- What is broken in a POU: its name, its variables, its statements, and its size.
use Rattle.std.specs.Prelude.{ℕ, zero, suc, Bool, true, false, not, ◌&&◌, ◌||◌, nat_lt, List, [], ◌∷◌, ◌++◌, Option, Some, None, is_some, if◌then◌else◌}
use Rattle.std.specs.List.{list_any, flat_map}
use Rattle.plcx_types.specs.Limits.{max_instance_chain, max_text_leaves}
use Rattle.plcx_types.specs.Reserved.{is_listed}
use Rattle.plcx_types.specs.TypeName.{type_named}
use Rattle.plcx_std.specs.Kind.{kind_named}
use Rattle.plcx_meaning.specs.Tree.{PouKind, is_program, Local, InOut, PouText}
use Rattle.plcx_meaning.specs.Layout.{Variable, Meaning, variables_of, is_constant}
use Rattle.plcx_meaning.specs.Ready.{size}
use Rattle.plcx_conditions.specs.declared.broken.Condition.TheVariants.{Name, Types, Recursion}
use Rattle.plcx_conditions.specs.declared.broken.Broken.{Broken}
use Rattle.plcx_conditions.specs.Broken.{broken_if}
use Rattle.plcx_conditions.specs.Placed as placed
use Rattle.plcx_conditions.specs.Placed.{Word, Pou, bare, bare_pou, Declared, declared, bare_variable}
use Rattle.plcx_conditions.specs.Known.{is_among, block_named, world_of, knows, known, is_instance, Setting, differ}
use Rattle.plcx_conditions.specs.Expressions.{broken_in_literal}
use Rattle.plcx_conditions.specs.Statements.{broken_in_statement}

-- ---- names

-- Name: a POU's or a variable's name is that of an earlier one, or reserved.
abbrev pub broken_in_own_name : (before : List Word) → Word → List Broken
broken_in_own_name before x = broken_if (is_among before x || is_listed x.name) Name x.at

-- Name: the type is unknown.
abbrev pub broken_in_type : List PouText → Word → List Broken
broken_in_type unit x = broken_if (not (knows unit x.name)) Name x.at

-- ---- variables

-- Type: the initial literal hasn't its variable's type, or its variable is an instance. Literal: it lies outside its type.
abbrev pub broken_in_initial : Option Meaning → Option placed.Literal → List Broken
broken_in_initial type None = []
broken_in_initial type (Some v) = broken_in_literal v ++ broken_if (differ type (Some v.value.ty)) Types v.at

-- a plain VAR or VAR RETAIN
abbrev pub has_instances : Declared → Bool
has_instances v = elim v.class [ Local ↦ not (is_constant v.mark) | _ ↦ false ]

-- a VAR_IN_OUT
abbrev pub is_in_out : Declared → Bool
is_in_out v = elim v.class [ InOut ↦ true | _ ↦ false ]

-- Type: an instance stands outside a plain VAR or VAR RETAIN, or an in-out variable stands in a PROGRAM.
abbrev pub broken_in_place : PouKind → Option Meaning → Declared → List Broken
broken_in_place kind type v = broken_if (is_instance type && not (has_instances v) || is_in_out v && is_program kind) Types v.declaration.name.at

-- ---- chains of instances

-- the function block of the unit that a variable is an instance of
abbrev pub user_block : List PouText → Variable → Option PouText
user_block unit v = if is_some (type_named v.ty) || is_some (kind_named v.ty) then None else block_named v.ty unit

-- a variable of a function block of the unit, behind which so many others follow, each declared in the type of the one before
abbrev pub starts_chain : ℕ → List PouText → Variable → Bool
starts_chain zero unit v = is_some (user_block unit v)
starts_chain (suc n) unit v = elim (user_block unit v) [ None ↦ false | Some p ↦ list_any (starts_chain n unit) (variables_of p.blocks) ]

-- Recursion: a chain of 17 variables starts there.
abbrev pub broken_in_chain : List PouText → Declared → List Broken
broken_in_chain unit v = broken_if (starts_chain max_instance_chain unit (bare_variable v)) Recursion v.declaration.name.at

abbrev pub broken_in_variable : List PouText → PouKind → (before : List Word) → Declared → List Broken
broken_in_variable unit kind before v =
    let d = v.declaration in
    broken_in_own_name before d.name
    ++ (broken_in_type unit d.ty
    ++ (broken_in_initial (known unit d.ty.name) d.initial
    ++ (broken_in_place kind (known unit d.ty.name) v
    ++ broken_in_chain unit v)))

abbrev pub broken_in_variables : List PouText → PouKind → (before : List Word) → List Declared → List Broken
broken_in_variables unit kind before [] = []
broken_in_variables unit kind before (v ∷ vs) = broken_in_variable unit kind before v ++ broken_in_variables unit kind (before ++ v.declaration.name ∷ []) vs

-- ---- sizes

-- some variable of the unit starts a chain that is too long
abbrev pub has_chain : List PouText → Bool
has_chain unit = list_any (λ (p : PouText). list_any (starts_chain max_instance_chain unit) (variables_of p.blocks)) unit

-- a POU with its instances has more leaves and instances than it may; 18 levels are all that there are where no chain is too long
abbrev pub is_large : List PouText → PouText → Bool
is_large unit p = nat_lt max_text_leaves (size 18 (world_of unit) (variables_of p.blocks))

-- Recursion: where there is no such chain in the unit, a POU is too large.
abbrev pub broken_in_size : List PouText → Pou → List Broken
broken_in_size unit p = broken_if (not (has_chain unit) && is_large unit (bare_pou p)) Recursion p.name.at

-- ---- units

abbrev pub broken_in_body : Setting → Pou → List Broken
broken_in_body s p = flat_map (broken_in_statement s) p.body

-- where the statements of a POU of a unit stand
abbrev pub setting : List PouText → Pou → Setting
setting unit p = record { unit = unit; own = variables_of (bare_pou p).blocks }

abbrev pub broken_in_pou : List PouText → (before : List Word) → Pou → List Broken
broken_in_pou unit before p =
    broken_in_own_name before p.name ++ (broken_in_variables unit p.kind [] (declared p) ++ (broken_in_body (setting unit p) p ++ broken_in_size unit p))

abbrev pub broken_in_pous : List PouText → (before : List Word) → List Pou → List Broken
broken_in_pous unit before [] = []
broken_in_pous unit before (p ∷ ps) = broken_in_pou unit before p ++ broken_in_pous unit (before ++ p.name ∷ []) ps

-- all that is broken in a unit
abbrev pub broken_in : List Pou → List Broken
broken_in unit = broken_in_pous (bare unit) [] unit
