-- The rules on names and addresses of what is declared. Each is told what was declared before, the last first.
use Rattle.std.specs.Prelude.{ℕ, Bool, true, false, not, ◌||◌, nat_lt, length, List, [], ◌∷◌, Option, Some, None, if◌then◌else◌}
use Rattle.std.specs.Str.{bytes_eq}
use Rattle.plcx_types.specs.Name.{is_identifier, in_lower_case}
use Rattle.plcx_types.specs.Limits.{max_declared_name_bytes}
use Rattle.plcx_types.specs.Reserved.{is_reserved}
use Rattle.plcx_profile.specs.declared.doubling.Once.{Once}
use Rattle.plcx_profile.specs.declared.doubling.Once.TheVariants.{PouNames, VariableNames, Addresses}
use Rattle.plcx_profile.specs.Declarations.{Declared, OfPou, OfVariable, name_of}
use Rattle.plcx_draft.specs.BodyIn.{nonempty}

-- a name is no identifier, too long or reserved
unfoldable pub is_bad_name : List ℕ → Bool
is_bad_name name = not (is_identifier name) || nat_lt max_declared_name_bytes (length name) || is_reserved name

-- a declared name is a bad one
abbrev pub breaks_name : List Declared → Declared → Bool
breaks_name before x = is_bad_name (name_of x)

-- what a declaration has that may stand once: names are compared in lower case, and an empty address is none
abbrev pub key_of : Once → Declared → Option (List ℕ)
key_of PouNames (OfPou p) = Some (in_lower_case p.name)
key_of PouNames (OfVariable list v) = None
key_of VariableNames (OfPou p) = None
key_of VariableNames (OfVariable list v) = Some (in_lower_case v.name)
key_of Addresses (OfPou p) = None
key_of Addresses (OfVariable list v) = nonempty v.address

-- where it may stand once more: names of variables in another POU
abbrev pub begins : Once → Declared → Bool
begins VariableNames (OfPou p) = true
begins _ x = false

-- what a declaration has is this
abbrev pub is_key : List ℕ → Option (List ℕ) → Bool
is_key q None = false
is_key q (Some key) = bytes_eq q key

-- it has stood, since it might stand once more
abbrev pub has_stood : Once → List ℕ → List Declared → Bool
has_stood once q [] = false
has_stood once q (x ∷ before) = if begins once x then false else (is_key q (key_of once x) || has_stood once q before)

-- what a declaration has, if it has any, has stood
abbrev pub stands_again : Once → Option (List ℕ) → List Declared → Bool
stands_again once None before = false
stands_again once (Some key) before = has_stood once key before

-- a declaration has what has stood before
abbrev pub doubles : Once → List Declared → Declared → Bool
doubles once before x = stands_again once (key_of once x) before
