-- The rules on types and initial values of variables.
use Rattle.std.specs.Prelude.{ℕ, Bool, true, false, not, ◌&&◌, ◌||◌, List, [], Option, Some, None, is_some, is_none, nat_lt, ◌^◌, if◌then◌else◌}
use Rattle.std.specs.Str.{bytes_eq}
use Rattle.plcx_types.specs.ReadLiteral.{value_of}
use Rattle.plcx_std.specs.Kind.{kind_named}
use Rattle.plcx_std.specs.declared.kind.StdKind.{StdKind}
use Rattle.plcx_model.specs.declared.project.ListClass.{ListClass}
use Rattle.plcx_model.specs.declared.project.ListClass.TheVariants.{Local, InOut}
use Rattle.plcx_model.specs.declared.project.VarTy.{VarTy}
use Rattle.plcx_model.specs.declared.project.VarTy.TheVariants as var
use Rattle.plcx_draft.specs.declared.draft.DraftType.{DraftType}
use Rattle.plcx_draft.specs.declared.draft.DraftType.TheVariants.{Plain, Derived}
use Rattle.plcx_draft.specs.declared.draft.DraftVariable.{DraftVariable}
use Rattle.plcx_draft.specs.declared.draft.DraftList.{DraftList}
use Rattle.plcx_draft.specs.declared.draft.DraftPou.{DraftPou}
use Rattle.plcx_profile.specs.Blocks.{block_named}
use Rattle.plcx_profile.specs.Declarations.{Declared, OfPou, OfVariable}
use Rattle.plcx_types.specs.Name.{in_lower_case}

-- a place is a number of 32 bits
abbrev pub block_at : Option ℕ → Option VarTy
block_at None = None
block_at (Some place) = if nat_lt place (2 ^ 32) then Some (var.Block place) else None

-- a standard block, or else a function block
abbrev pub standard_or : Option VarTy → Option StdKind → Option VarTy
standard_or block None = block
standard_or block (Some k) = Some (var.Std k)

-- the type that is meant, where there is one
abbrev pub type_meant : List DraftPou → DraftType → Option VarTy
type_meant pous (Plain t) = Some (var.Plain t)
type_meant pous (Derived name) = standard_or (block_at (block_named pous (in_lower_case name))) (kind_named name)

-- the type is elementary
abbrev pub is_plain : DraftType → Bool
is_plain (Plain t) = true
is_plain (Derived name) = false

-- the list is local
abbrev pub is_local : ListClass → Bool
is_local Local = true
is_local _ = false

-- the list has in-outs
abbrev pub is_in_out : ListClass → Bool
is_in_out InOut = true
is_in_out _ = false

-- instances stand in local lists that aren't constant
abbrev pub may_hold : DraftList → DraftType → Bool
may_hold list t = is_plain t || (is_local list.class && not list.constant)

-- a type is unknown, or an instance stands where none may
abbrev pub breaks_type : List DraftPou → List Declared → Declared → Bool
breaks_type pous before (OfPou p) = false
breaks_type pous before (OfVariable list v) = is_none (type_meant pous v.ty) || not (may_hold list v.ty)

-- the text is no value of the type
abbrev pub is_no_value : DraftType → List ℕ → Bool
is_no_value (Plain t) text = is_none (value_of t text)
is_no_value (Derived name) text = true

-- an initial value stands and is none
abbrev pub is_bad_initial : DraftType → Option (List ℕ) → Bool
is_bad_initial t None = false
is_bad_initial t (Some text) = is_no_value t text

-- an in-out has neither an initial value nor an address
abbrev pub breaks_in_out : ListClass → DraftVariable → Bool
breaks_in_out class v = is_in_out class && (is_some v.initial || not (bytes_eq v.address []))

-- an initial value is none of the type or may not stand, or an in-out has an address
abbrev pub breaks_initial : List Declared → Declared → Bool
breaks_initial before (OfPou p) = false
breaks_initial before (OfVariable list v) = is_bad_initial v.ty v.initial || breaks_in_out list.class v
