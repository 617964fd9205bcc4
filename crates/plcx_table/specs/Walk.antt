-- The elements that are looked at, in document order, each with what becomes of it.
use Rattle.std.specs.Prelude.{ℕ, suc, zero, Bool, true, false, not, ◌&&◌, ◌||◌, nat_eq, List, [], ◌∷◌, ◌++◌, codes, filter_map, Option, Some, None, option_map, if◌then◌else◌}
use Rattle.std.specs.List.{list_any, list_all, find}
use Rattle.std.specs.Str.{bytes_eq}
use Rattle.plcx_xml.specs.Character.{is_space}
use Rattle.plcx_xml.specs.Look.{name_of, attributes_of, children_of, span_of}
use Rattle.plcx_xml.specs.declared.tree.Attribute.{Attribute}
use Rattle.plcx_xml.specs.declared.tree.Node.{Node, out-Node}
use Rattle.plcx_xml.specs.declared.tree.Node.TheOpen.{Node-F}
use Rattle.plcx_xml.specs.declared.tree.Element.{Element}
use Rattle.plcx_table.specs.declared.row.Row.{Row}
use Rattle.plcx_table.specs.declared.row.Row.TheVariants.{Contents, Bare}
use Rattle.plcx_table.specs.declared.row.Seat.{Seat}
use Rattle.plcx_table.specs.declared.row.Seat.TheVariants.{First, Second, Third, Fourth}
use Rattle.plcx_table.specs.declared.row.Often.{Often}
use Rattle.plcx_table.specs.declared.row.Often.TheVariants.{Any, AtMostOnce, Once}
use Rattle.plcx_table.specs.declared.row.Fate.{Fate}
use Rattle.plcx_table.specs.declared.row.Fate.TheVariants.{Read, Refused, Skipped, Misplaced, Doubled}
use Rattle.plcx_table.specs.declared.row.Taken.{Taken}
use Rattle.plcx_table.specs.Table.{When, Always, Has, HasText, Child, children, holds_text}

-- an element that is looked at, and what becomes of it
pub record Item : Type 0 where
  pub fate : Fate
  pub element : Element

-- the byte of the file where its start tag begins
abbrev pub start_of : Element → ℕ
start_of e = (span_of e).start

-- the value of an attribute, if it has the name
abbrev pub value_under : List ℕ → Attribute → Option (List ℕ)
value_under name a = if bytes_eq a.name name then Some a.value else None

-- the values of the attributes of a name
unfoldable pub values_of : List ℕ → Element → List (List ℕ)
values_of name e = filter_map (value_under name) (attributes_of e)

-- the first of a list
abbrev pub first : {A : Type 0} → List A → Option A
first [] = None
first (x ∷ xs) = Some x

-- the value is this one
abbrev pub is_value : List ℕ → Option (List ℕ) → Bool
is_value value None = false
is_value value (Some v) = bytes_eq v value

-- a part that is text, and not white space alone
abbrev pub is_nonblank : Node-F Node Element → Bool
is_nonblank (Node-F.Element e) = false
is_nonblank (Node-F.Text t) = not (list_all is_space t.value)

-- some text in it isn't white space alone
unfoldable pub has_text : Element → Bool
has_text e = list_any (λ (n : Node). is_nonblank (out-Node n)) (children_of e)

-- whether a child of its name is meant there
abbrev pub is_meant : When → Element → Bool
is_meant Always e = true
is_meant (Has name value) e = is_value value (first (values_of name e))
is_meant HasText e = has_text e

-- an element fits an entry by its name, where it is meant
abbrev pub fits : Element → Child → Bool
fits e c = bytes_eq c.name (name_of e) && is_meant c.when e

-- what a child is, among those that an element of a row may have
unfoldable pub child_for : Row → Element → Option Child
child_for row e = find (fits e) (children row)

-- what it is meant as
abbrev pub fate_for : Row → Element → Option Fate
fate_for row e = option_map (λ (c : Child). c.fate) (child_for row e)

-- what may stand anywhere, and is skipped
unfoldable pub is_aside : List ℕ → Bool
is_aside name = bytes_eq name (codes "documentation") || bytes_eq name (codes "addData")

-- whether a seat is taken
abbrev pub is_taken : Seat → Taken → Bool
is_taken First t = t.first
is_taken Second t = t.second
is_taken Third t = t.third
is_taken Fourth t = t.fourth

-- one seat more is taken
abbrev pub with_seat : Seat → Taken → Taken
with_seat First t = record t { first = true }
with_seat Second t = record t { second = true }
with_seat Third t = record t { third = true }
with_seat Fourth t = record t { fourth = true }

-- no seat is taken
abbrev pub none_taken : Taken
none_taken = record { first = false; second = false; third = false; fourth = false }

-- what a child that stands so often takes
abbrev pub with_often : Often → Taken → Taken
with_often Any t = t
with_often (AtMostOnce s) t = with_seat s t
with_often (Once s) t = with_seat s t

-- what a child of the table takes; others take nothing
abbrev pub with_child : Option Child → Taken → Taken
with_child None t = t
with_child (Some c) t = with_often c.often t

-- a second child at a seat is doubled
abbrev pub fate_often : Often → Taken → Fate → Fate
fate_often Any t fate = fate
fate_often (AtMostOnce s) t fate = if is_taken s t then Doubled else fate
fate_often (Once s) t fate = if is_taken s t then Doubled else fate

-- a name with a prefix
unfoldable pub has_prefix : List ℕ → Bool
has_prefix name = list_any (nat_eq 58) name

-- what becomes of a child whose name the table doesn't have: among actions and transitions it is a construct that is left out
abbrev pub other_fate : Row → List ℕ → Fate
other_fate Contents name = if has_prefix name then Misplaced else Refused Bare
other_fate _ name = Misplaced

-- by its entry, or by its name where it has none
abbrev pub fate_as : Row → List ℕ → Option Child → Taken → Fate
fate_as row name None t = other_fate row name
fate_as row name (Some c) t = fate_often c.often t c.fate

-- what becomes of a child of an element of this row, behind children that took these seats
unfoldable pub fate_of : Row → Taken → Element → Fate
fate_of row t e = if holds_text row then Misplaced else (if is_aside (name_of e) then Skipped Bare else fate_as row (name_of e) (child_for row e) t)

-- the seats that are taken once this child has come
unfoldable pub taken_with : Row → Taken → Element → Taken
taken_with row t e = if holds_text row || is_aside (name_of e) then t else with_child (child_for row e) t

-- the same behind a part of an element; text takes none
abbrev pub taken_behind : Row → Taken → Node-F Node Element → Taken
taken_behind row t (Node-F.Element e) = taken_with row t e
taken_behind row t (Node-F.Text text) = t

-- what is looked at in one part of an element
abbrev pub at_node : (Fate → Element → List Item) → Row → Taken → Node-F Node Element → List Item
at_node inner row t (Node-F.Element e) = inner (fate_of row t e) e
at_node inner row t (Node-F.Text text) = []

-- what is looked at in the children of an element, one behind the other
unfoldable pub items_below : (Fate → Element → List Item) → Row → Taken → List Node → List Item
items_below inner row t [] = []
items_below inner row t (n ∷ ns) = at_node inner row t (out-Node n) ++ items_below inner row (taken_behind row t (out-Node n)) ns

-- below an element only where it is read
abbrev pub below : (Fate → Element → List Item) → Fate → Element → List Item
below inner (Read row) e = items_below inner row none_taken (children_of e)
below inner _ e = []

-- an element, and what is looked at below it, at most so deep
unfoldable pub items : ℕ → Fate → Element → List Item
items zero fate e = []
items (suc n) fate e = record { fate = fate; element = e } ∷ below (items n) fate e
