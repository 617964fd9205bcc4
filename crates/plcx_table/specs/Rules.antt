-- The rules on the structure of a file and on its attributes: each looks at one element.
use Rattle.std.specs.Prelude.{ℕ, Bool, true, false, not, ◌&&◌, ◌||◌, nat_eq, nat_lt, length, List, [], ◌∷◌, codes, fold, Option, Some, None}
use Rattle.std.specs.List.{list_any}
use Rattle.std.specs.Str.{bytes_eq}
use Rattle.plcx_types.specs.ReadAddress.{is_address}
use Rattle.plcx_xml.specs.Look.{children_of}
use Rattle.plcx_xml.specs.declared.tree.Node.{Node, out-Node}
use Rattle.plcx_xml.specs.declared.tree.Element.{Element}
use Rattle.plcx_table.specs.declared.row.Row.{Row}
use Rattle.plcx_table.specs.declared.row.Often.{Often}
use Rattle.plcx_table.specs.declared.row.Often.TheVariants.{Any, AtMostOnce, Once}
use Rattle.plcx_table.specs.declared.row.Fate.{Fate}
use Rattle.plcx_table.specs.declared.row.Fate.TheVariants.{Read, Refused, Skipped, Misplaced, Doubled}
use Rattle.plcx_table.specs.declared.row.Form.{Form}
use Rattle.plcx_table.specs.declared.row.Form.TheVariants.{Whole, Coordinate, Boolean, Edge, Storage, PouType, Namespace, Address, Nonempty}
use Rattle.plcx_table.specs.declared.row.Form.TheVariants as form
use Rattle.plcx_table.specs.declared.row.Taken.{Taken}
use Rattle.plcx_table.specs.Table.{Child, Field, children, attributes, holds_text}
use Rattle.plcx_table.specs.Number.{is_number, is_coordinate}
use Rattle.plcx_table.specs.Walk.{values_of, is_taken, none_taken, taken_behind, has_text}

-- the seats that the children of an element take up
unfoldable pub taken_by : Row → List Node → Taken
taken_by row nodes = fold (λ (t : Taken) (n : Node). taken_behind row t (out-Node n)) none_taken nodes

-- a child that has to stand doesn't
abbrev pub is_open : Taken → Often → Bool
is_open t Any = false
is_open t (AtMostOnce s) = false
is_open t (Once s) = not (is_taken s t)

-- a child that has to be there is missing
unfoldable pub lacks_child : Row → Element → Bool
lacks_child row e = list_any (λ (c : Child). is_open (taken_by row (children_of e)) c.often) (children row)

-- text stands where none may
unfoldable pub has_stray_text : Row → Element → Bool
has_stray_text row e = not (holds_text row) && has_text e

-- an element is misplaced or doubled, lacks a child, or has text where none may stand
abbrev pub breaks_structure : Fate → Element → Bool
breaks_structure Misplaced e = true
breaks_structure Doubled e = true
breaks_structure (Read row) e = lacks_child row e || has_stray_text row e
breaks_structure _ e = false

-- what an attribute's value is like
abbrev pub is_among : List (List ℕ) → List ℕ → Bool
is_among values value = list_any (bytes_eq value) values

-- a value has its form
unfoldable pub has_form : Form → List ℕ → Bool
has_form Whole v = is_number v
has_form Coordinate v = is_coordinate v
has_form Boolean v = is_among (codes "true" ∷ codes "false" ∷ codes "1" ∷ codes "0" ∷ []) v
has_form Edge v = is_among (codes "none" ∷ codes "rising" ∷ codes "falling" ∷ []) v
has_form Storage v = is_among (codes "none" ∷ codes "set" ∷ codes "reset" ∷ []) v
has_form PouType v = is_among (codes "program" ∷ codes "functionBlock" ∷ codes "function" ∷ []) v
has_form Namespace v = is_among (codes "http://www.plcopen.org/xml/tc6_0201" ∷ codes "http://www.plcopen.org/xml/tc6_0200" ∷ []) v
has_form Address v = nat_eq (length v) 0 || is_address v
has_form Nonempty v = nat_lt 0 (length v)
has_form form.Text v = true

-- the one of a list, if it has one; there is no answer where it has more
abbrev pub at_most_one : {A : Type 0} → List A → Option (Option A)
at_most_one [] = Some None
at_most_one (x ∷ []) = Some (Some x)
at_most_one (x ∷ y ∷ more) = None

-- an attribute is missing, doubled or malformed
abbrev pub is_bad : Bool → (List ℕ → Bool) → Option (Option (List ℕ)) → Bool
is_bad required good None = true
is_bad required good (Some None) = required
is_bad required good (Some (Some v)) = not (good v)

-- an attribute of the table is missing, doubled or malformed
abbrev pub is_bad_field : Element → Field → Bool
is_bad_field e f = is_bad f.required (has_form f.form) (at_most_one (values_of f.name e))

-- some attribute of the table is
unfoldable pub has_bad_field : Row → Element → Bool
has_bad_field row e = list_any (is_bad_field e) (attributes row)

-- a namespace other than the root's
unfoldable pub has_bad_namespace : List ℕ → Element → Bool
has_bad_namespace namespace e = is_bad false (λ v. bytes_eq v namespace) (at_most_one (values_of (codes "xmlns") e))

-- the attributes of the table count wherever an element has a row; the namespace doesn't where it is skipped
abbrev pub breaks_attributes : List ℕ → Fate → Element → Bool
breaks_attributes namespace (Read row) e = has_bad_field row e || has_bad_namespace namespace e
breaks_attributes namespace (Refused row) e = has_bad_field row e || has_bad_namespace namespace e
breaks_attributes namespace (Skipped row) e = has_bad_field row e
breaks_attributes namespace _ e = false
