-- What is looked at, as the code has it.
use Rattle.std.specs.Prelude.{◌≡◌, ℕ, Bool, List, true, Option, option_map}
use Rattle.std.specs.List.{find}
use Rattle.plcx_table.specs.declared.row.FormatRule.{FormatRule}
use Rattle.plcx_table.specs.declared.walk.Looked.{Looked}
use Rattle.plcx_table.specs.Walk.{Item, start_of}
use Rattle.plcx_table.specs.Format.{breaks}

-- an element that is looked at
abbrev pub shown_item : Looked → Item
shown_item x = record { fate = x.fate; element = x.element.now }

-- an element breaks a rule, in a file of this namespace and these items
abbrev pub BreaksIn : List ℕ → List Item → FormatRule → List Item → Item → Type 0
BreaksIn namespace all rule before x = breaks namespace all rule before x ≡ true

-- the place of the first that passes a test
abbrev pub first_place : (Item → Bool) → List Item → Option ℕ
first_place test items = option_map (λ (x : Item). start_of x.element) (find test items)
