-- The variables of a POU, each with what its type stands for.
use Rattle.std.specs.Prelude.{◌≡◌, ℕ, Bool, true, false, List, Option, Some, None, map}
use Rattle.std.specs.List.{find, filter}
use Rattle.plcx_meaning.specs.Tree.{InOut, PouText}
use Rattle.plcx_st.specs.declared.tree.TextKind.{TextKind}
use Rattle.plcx_st.specs.declared.tree.TextKind.TheVariants as kind
use Rattle.plcx_st.specs.Meant.{class_meant, mark_meant}
use Rattle.plcx_conditions.specs.Placed.{Pou, Declared, declared}
use Rattle.plcx_conditions.specs.Places.{placed_declaration}
use Rattle.plcx_conditions.specs.Known.{same_name, Seen}
use Rattle.plcx_known.specs.declared.types.VarType.{VarType}
use Rattle.plcx_known.specs.declared.owner.Own.{Own}
use Rattle.plcx_known.specs.declared.seen.Seen as code
use Rattle.plcx_known.specs.Types.{type_of, meaning_of}

-- no program
abbrev pub is_block : TextKind → Bool
is_block kind.Program = false
is_block kind.FunctionBlock = true

-- a variable with what its type stands for
pub record Typed : Type 0 where
  pub variable : Declared
  pub type : VarType

abbrev pub typed : List PouText → Declared → Typed
typed unit d = record { variable = d; type = type_of unit d.declaration.ty.name }

-- the variables of a POU, in the order of the text
abbrev pub own_of : List PouText → Pou → List Typed
own_of unit p = map (typed unit) (declared p)

-- a variable of the code
abbrev pub shown_variable : Own → Declared
shown_variable v = record { class = class_meant v.class; mark = mark_meant v.mark; declaration = placed_declaration v.decl.now }

abbrev pub shown_own : Own → Typed
shown_own v = record { variable = shown_variable v; type = v.ty }

abbrev pub name_of : Typed → List ℕ
name_of t = t.variable.declaration.name.name

-- the first of these variables of a name
abbrev pub variable_in : List ℕ → List Typed → Option Typed
variable_in name ts = find (λ (t : Typed). same_name (name_of t) name) ts

-- what a name that leads to the variable means
abbrev pub seen_of : List PouText → Typed → Seen
seen_of unit t = record { class = t.variable.class; mark = t.variable.mark; type = meaning_of unit t.type }

-- and what the code keeps of that
abbrev pub shown_seen : List PouText → code.Seen → Seen
shown_seen unit v = record { class = class_meant v.class; mark = mark_meant v.mark; type = meaning_of unit v.ty }

-- ---- in-outs

-- a variable was found, and is a VAR_IN_OUT
abbrev pub is_in_out : Option Typed → Bool
is_in_out None = false
is_in_out (Some t) = elim t.variable.class [ InOut ↦ true | _ ↦ false ]

-- the name of the variable leads to an in-out
abbrev pub names_in_out : List Typed → Typed → Bool
names_in_out ts t = is_in_out (variable_in (name_of t) ts)

-- the names of variables that lead to in-outs
abbrev pub in_out_names : List Typed → List (List ℕ)
in_out_names ts = map name_of (filter (names_in_out ts) ts)

-- ---- Serves proofs.

-- these are the names of these variables
abbrev pub AreNamed : List Own → List (List ℕ) → Type 0
AreNamed all names = names ≡ map name_of (map shown_own all)
