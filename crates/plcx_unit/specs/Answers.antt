-- What is found of declarations.
use Rattle.std.specs.Prelude.{◌≡◌, Bool, true, false, not, List, map}
use Rattle.plcx_types.specs.Limits.{max_instance_chain}
use Rattle.plcx_types.specs.Lists.{Each}
use Rattle.plcx_st.specs.declared.tree.PouText as st
use Rattle.plcx_meaning.specs.Tree.{Class, Local, InOut, Mark, PouText}
use Rattle.plcx_meaning.specs.Layout.{is_constant}
use Rattle.plcx_conditions.specs.Placed.{Pou, bare_pou, Declared, bare_variable}
use Rattle.plcx_conditions.specs.Declarations.{starts_chain, has_chain, is_large}
use Rattle.plcx_known.specs.declared.types.VarType.{VarType}
use Rattle.plcx_known.specs.declared.types.VarType.TheVariants as type
use Rattle.plcx_known.specs.Unit.{placed_of, bare_of}
use Rattle.plcx_known.specs.Types.{type_of}
use Rattle.plcx_known.specs.Owned.{Typed}
use Rattle.plcx_known.specs.Chains.{leads_on}

-- the name of a type stands for nothing
abbrev pub is_unknown : VarType → Bool
is_unknown type.Unknown = true
is_unknown (type.Elementary t) = false
is_unknown (type.Standard k) = false
is_unknown (type.Block place) = false

-- a variable is kept with what its type's name stands for
abbrev pub IsTyped : List PouText → Typed → Type 0
IsTyped unit t = t.type ≡ type_of unit t.variable.declaration.ty.name

abbrev pub AreTyped : List PouText → List Typed → Type 0
AreTyped unit ts = Each (IsTyped unit) ts

-- variables as they are declared
abbrev pub variables_of : List Typed → List Declared
variables_of ts = map (λ (t : Typed). t.variable) ts

-- a block of this class and mark may have instances
abbrev pub may_have_instances : Class → Mark → Bool
may_have_instances class mark = elim class [ Local ↦ not (is_constant mark) | _ ↦ false ]

abbrev pub is_class_in_out : Class → Bool
is_class_in_out class = elim class [ InOut ↦ true | _ ↦ false ]

-- where chains that are too long start, whether there is one, and which POUs are too large
pub record Tells (pous : List st.PouText) (behind : List Bool) (some_chain : Bool) (marks : List Bool) : Type 0 where
  pub starts : (v : Declared) → leads_on behind (type_of (bare_of pous) v.declaration.ty.name) ≡ starts_chain max_instance_chain (bare_of pous) (bare_variable v)
  pub any : some_chain ≡ has_chain (bare_of pous)
  pub large : marks ≡ map (λ (p : Pou). is_large (bare_of pous) (bare_pou p)) (placed_of pous)
