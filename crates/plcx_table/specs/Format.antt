-- What is looked at in a file, and the first rule on its form that it breaks.
use Rattle.std.specs.Prelude.{◌≡◌, ℕ, Bool, true, List, [], ◌∷◌, codes, Option, if◌then◌else◌}
use Rattle.std.specs.Str.{bytes_eq}
use Rattle.plcx_types.specs.Limits.{max_element_depth}
use Rattle.plcx_model.specs.Verdict.{Verdict}
use Rattle.plcx_xml.specs.Look.{name_of}
use Rattle.plcx_xml.specs.declared.tree.Element.{Element}
use Rattle.plcx_table.specs.declared.row.Row.TheVariants.{Project}
use Rattle.plcx_table.specs.declared.row.Fate.{Fate}
use Rattle.plcx_table.specs.declared.row.Fate.TheVariants.{Read, Misplaced}
use Rattle.plcx_table.specs.declared.row.FormatRule.{FormatRule}
use Rattle.plcx_table.specs.declared.row.FormatRule.TheVariants.{Structure, Attributes, Constructs, Limits}
use Rattle.plcx_table.specs.Walk.{Item, start_of, items}
use Rattle.plcx_table.specs.Rules.{breaks_structure, breaks_attributes}
use Rattle.plcx_table.specs.Constructs.{attribute_of, referred, breaks_constructs}
use Rattle.plcx_table.specs.Limits.{breaks_limits}

-- the root is a project
unfoldable pub root_fate : Element → Fate
root_fate e = if bytes_eq (name_of e) (codes "project") then Read Project else Misplaced

-- all that is looked at, in document order: no element of a tree lies deeper
unfoldable pub looked_at : Element → List Item
looked_at root = items max_element_depth (root_fate root) root

-- whether an element breaks a rule, in a file of this namespace and behind these elements; all are given too
unfoldable pub breaks : List ℕ → List Item → FormatRule → List Item → Item → Bool
breaks namespace all Structure before x = breaks_structure x.fate x.element
breaks namespace all Attributes before x = breaks_attributes namespace x.fate x.element
breaks namespace all Constructs before x = breaks_constructs (referred 0 all) before x
breaks namespace all Limits before x = breaks_limits before x

-- an element breaks a rule, in a file of this root
abbrev pub Breaks : Element → FormatRule → List Item → Item → Type 0
Breaks root rule before x = breaks (attribute_of (codes "xmlns") root) (looked_at root) rule before x ≡ true

-- the rules, as they are tested
abbrev pub format_rules : List FormatRule
format_rules = Structure ∷ Attributes ∷ Constructs ∷ Limits ∷ []

-- each rule is broken where the element begins
abbrev pub place_of : FormatRule → Item → ℕ
place_of rule x = start_of x.element

-- the first rule on its form that a file breaks, and the byte where the element begins that breaks it first
abbrev pub FormatVerdict : Element → Option (FormatRule × ℕ) → Type 0
FormatVerdict root v = Verdict (Breaks root) place_of (looked_at root) format_rules v
