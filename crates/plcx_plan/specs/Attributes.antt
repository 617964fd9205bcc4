-- Attributes that stand once, and what is asked of their values.
use Rattle.std.specs.Prelude.{◌≡◌, ℕ, Bool, true, false, List, codes, Option, Some, None}
use Rattle.std.specs.List.{list_any}
use Rattle.std.specs.Str.{bytes_eq}
use Rattle.plcx_types.specs.Name.{is_identifier, in_lower_case}
use Rattle.plcx_xml.specs.declared.tree.Element.{Element}
use Rattle.plcx_table.specs.Rules.{at_most_one}
use Rattle.plcx_table.specs.Walk.{values_of}

-- the value of an attribute, where it stands
abbrev pub only : Option (Option (List ℕ)) → Option (List ℕ)
only None = None
only (Some value) = value

-- the value of an attribute that stands once
unfoldable pub value_once : List ℕ → Element → Option (List ℕ)
value_once name e = only (at_most_one (values_of name e))

-- an element has this name, which is an identifier
pub record IsNamed (e : Element) (name : List ℕ) : Type 0 where
  pub value : value_once (codes "name") e ≡ Some name
  pub identifier : is_identifier name ≡ true

-- the text is this one in lower case
abbrev pub is_key : List ℕ → Option (List ℕ) → Bool
is_key key None = false
is_key key (Some text) = bytes_eq key (in_lower_case text)

-- an element has the name that is this one in lower case
abbrev pub is_called : List ℕ → Element → Bool
is_called key e = is_key key (value_once (codes "name") e)

-- one of these elements has the name, in any case
abbrev pub is_taken : List Element → List ℕ → Bool
is_taken earlier name = list_any (is_called (in_lower_case name)) earlier
