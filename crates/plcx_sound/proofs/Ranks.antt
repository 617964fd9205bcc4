-- Elements lie below others by the table alone: what is counted in one element is counted nowhere above it.
use Rattle.std.proofs.Common.{◌≡◌, ℕ, zero, suc, ◌+◌, ◌≤◌, ◌<◌, Bool, true, false, cond, nat_lt, List, [], ◌∷◌, Option, Some, None, refl, ap, subst, arith}
use Rattle.std.specs.List.{list_all, find}
use Rattle.std.proofs.lemmas.Bool.Decides.{nat_tests}
use Rattle.plcx_types.specs.Lists.{Each}
use Rattle.plcx_types.specs.Limits.{max_pous, max_variables, max_elements, max_connections, max_pin_connections, max_pins}
use Rattle.plcx_xml.specs.Look.{name_of, children_of}
use Rattle.plcx_xml.specs.declared.tree.Node.{Node, out-Node}
use Rattle.plcx_xml.specs.declared.tree.Node.TheOpen.{Node-F}
use Rattle.plcx_xml.specs.declared.tree.Element.{Element}
use Rattle.plcx_table.specs.declared.limits.Counts.{Counts}
use Rattle.plcx_table.specs.declared.row.Row.{Row}
use Rattle.plcx_table.specs.declared.row.Row.TheVariants.{Project, Types, DataTypes, Pous, Program, FunctionBlock, Contents, ProgramInterface, BlockInterface, VariableList, OutsideList, Variable, OneType, InitialValue, Body, Diagram, Comment, Vendor, Block, InputPins, InOutPins, OutputPins, InputPin, InOutPin, OutputPin, PointIn, PointOut, RailPoint, Connection, RailConnection, InVariable, OutVariable, Contact, Coil, Connector, Continuation, Label, Jump, Return, LeftRail, RightRail, Bare}
use Rattle.plcx_table.specs.declared.row.Often.{Often}
use Rattle.plcx_table.specs.declared.row.Often.TheVariants.{Any, AtMostOnce, Once}
use Rattle.plcx_table.specs.declared.row.Fate.{Fate}
use Rattle.plcx_table.specs.declared.row.Fate.TheVariants.{Read, Refused, Skipped, Misplaced, Doubled}
use Rattle.plcx_table.specs.declared.row.Taken.{Taken}
use Rattle.plcx_table.specs.Limits.{no_counts, with_fate, IsFew}
use Rattle.plcx_table.specs.Table.{Child, children, holds_text}
use Rattle.plcx_table.specs.Walk.{Item, fits, child_for, fate_of, other_fate, fate_as, fate_often, has_prefix, is_taken, is_aside, none_taken, taken_behind, at_node, items_below, below, items}
use Rattle.plcx_sound.proofs.Lists.{all_joined}
use Rattle.plcx_sound.proofs.Variables.{and_true}
use Rattle.plcx_sound.proofs.Walked.{Good, FewFrom, bit, count}

-- how many levels there may be below an element
abbrev pub rank : Row → ℕ
rank Project = 10
rank Types = 9
rank Pous = 8
rank Program = 7
rank FunctionBlock = 7
rank Body = 6
rank Diagram = 5
rank Block = 4
rank ProgramInterface = 4
rank BlockInterface = 4
rank InputPins = 3
rank InOutPins = 3
rank OutputPins = 3
rank VariableList = 3
rank OutsideList = 3
rank InputPin = 2
rank InOutPin = 2
rank OutputPin = 2
rank Variable = 2
rank InVariable = 2
rank OutVariable = 2
rank Contact = 2
rank Coil = 2
rank Connector = 2
rank Continuation = 2
rank Label = 2
rank Jump = 2
rank Return = 2
rank LeftRail = 2
rank RightRail = 2
rank DataTypes = 1
rank OneType = 1
rank InitialValue = 1
rank PointIn = 1
rank PointOut = 1
rank RailPoint = 1
rank _ = 0

abbrev pub is_lower : ℕ → Fate → Bool
is_lower k (Read row) = nat_lt (rank row) k
is_lower k _ = true

-- the table goes down
falls : (row : Row) → list_all (λ (c : Child). is_lower (rank row) c.fate) (children row) ≡ true
falls Project = refl
falls _ = refl

found_step : {A : Type 0} (test good : A → Bool) (y : A) (ys : List A) (x : A) (b : Bool) → list_all good (y ∷ ys) ≡ true → (list_all good ys ≡ true → find test ys ≡ Some x → good x ≡ true) → cond b (Some y) (find test ys) ≡ Some x → good x ≡ true
found_step test good y ys x true h more some = let same : y ≡ x = cc in subst (λ z. good z ≡ true) same (and_true (good y) (list_all good ys) h).0
found_step test good y ys x false h more some = more (and_true (good y) (list_all good ys) h).1 some

pub found_passes : {A : Type 0} (test good : A → Bool) (xs : List A) (x : A) → list_all good xs ≡ true → find test xs ≡ Some x → good x ≡ true
found_passes test good [] x h is = absurd (cc)
found_passes test good (y ∷ ys) x h is = found_step test good y ys x (test y) h (found_passes test good ys x) is

lower_of : (k : ℕ) (b : Bool) (f g : Fate) → is_lower k f ≡ true → is_lower k g ≡ true → is_lower k (cond b f g) ≡ true
lower_of k true f g h m = h
lower_of k false f g h m = m

other_lower : (k : ℕ) (row : Row) (name : List ℕ) → is_lower k (other_fate row name) ≡ true
other_lower k Contents name = lower_of k (has_prefix name) Misplaced (Refused Bare) refl refl
other_lower k _ name = refl

often_lower : (k : ℕ) (often : Often) (t : Taken) (fate : Fate) → is_lower k fate ≡ true → is_lower k (fate_often often t fate) ≡ true
often_lower k Any t fate h = h
often_lower k (AtMostOnce s) t fate h = lower_of k (is_taken s t) Doubled fate refl h
often_lower k (Once s) t fate h = lower_of k (is_taken s t) Doubled fate refl h

as_lower : (row : Row) (t : Taken) (e : Element) (c : Option Child) → child_for row e ≡ c → is_lower (rank row) (fate_as row (name_of e) c t) ≡ true
unfolding child_for
as_lower row t e None is = other_lower (rank row) row (name_of e)
as_lower row t e (Some c) is = often_lower (rank row) c.often t c.fate (found_passes (fits e) (λ (d : Child). is_lower (rank row) d.fate) (children row) c (falls row) is)

fate_lower : (row : Row) (t : Taken) (e : Element) → is_lower (rank row) (fate_of row t e) ≡ true
unfolding fate_of
fate_lower row t e = lower_of (rank row) (holds_text row) Misplaced _ refl (lower_of (rank row) (is_aside (name_of e)) (Skipped Bare) _ refl (as_lower row t e (child_for row e) refl))

lower_still : (j k : ℕ) (fate : Fate) → j ≤ k → is_lower j fate ≡ true → is_lower k fate ≡ true
lower_still j k (Read row) h m = grind (arith, nat_tests)
lower_still j k (Refused row) h m = refl
lower_still j k (Skipped row) h m = refl
lower_still j k Misplaced h m = refl
lower_still j k Doubled h m = refl

abbrev pub Lower : ℕ → Item → Type 0
Lower k x = is_lower k x.fate ≡ true

node_lower : (k n : ℕ) (row : Row) → rank row ≤ k → ((fate : Fate) (e : Element) → is_lower k fate ≡ true → Each (Lower k) (items n fate e)) → (t : Taken) (node : Node-F Node Element) → Each (Lower k) (at_node (items n) row t node)
node_lower k n row h inner t (Node-F.Element e) = inner (fate_of row t e) e (lower_still (rank row) k (fate_of row t e) h (fate_lower row t e))
node_lower k n row h inner t (Node-F.Text text) = tt

nodes_lower : (k n : ℕ) (row : Row) → rank row ≤ k → ((fate : Fate) (e : Element) → is_lower k fate ≡ true → Each (Lower k) (items n fate e)) → (t : Taken) (ns : List Node) → Each (Lower k) (items_below (items n) row t ns)
unfolding items_below
nodes_lower k n row h inner t [] = tt
nodes_lower k n row h inner t (node ∷ ns) =
    all_joined (Lower k) (at_node (items n) row t (out-Node node)) (items_below (items n) row (taken_behind row t (out-Node node)) ns)
    (node_lower k n row h inner t (out-Node node)) (nodes_lower k n row h inner (taken_behind row t (out-Node node)) ns)

below_lower : (k n : ℕ) (fate : Fate) (e : Element) → is_lower k fate ≡ true → ((fate : Fate) (e : Element) → is_lower k fate ≡ true → Each (Lower k) (items n fate e)) → Each (Lower k) (below (items n) fate e)
below_lower k n (Read row) e h inner = nodes_lower k n row (let less : rank row < k = grind (arith, nat_tests) in omega arith) inner none_taken (children_of e)
below_lower k n (Refused row) e h inner = tt
below_lower k n (Skipped row) e h inner = tt
below_lower k n Misplaced e h inner = tt
below_lower k n Doubled e h inner = tt

items_lower : (k n : ℕ) (fate : Fate) (e : Element) → is_lower k fate ≡ true → Each (Lower k) (items n fate e)
unfolding items
items_lower k zero fate e h = tt
items_lower k (suc n) fate e h = (h, below_lower k n fate e h (items_lower k n))

-- all that is looked at below an element is lower
pub lower : (n : ℕ) (row : Row) (e : Element) → Each (Lower (rank row)) (items_below (items n) row none_taken (children_of e))
lower n row e = nodes_lower (rank row) n row (omega arith) (items_lower (rank row) n) none_taken (children_of e)

-- what is counted while nothing begins its count anew
module _ (field : Counts → ℕ) (class quiet : Fate → Bool) (limit : ℕ) (grows : (f : Fate) (c : Counts) → quiet f ≡ true → field (with_fate f c) ≡ field c + bit (class f)) (few : (c : Counts) → IsFew c → field c ≤ limit) where
  pub run : (c : Counts) (xs : List Item) → field c ≤ limit → Each (λ (x : Item). quiet x.fate ≡ true) xs → FewFrom c xs → field c + count class xs ≤ limit
  run c [] h q f = omega arith
  run c (x ∷ xs) h q f = let more = run (with_fate x.fate c) xs (few (with_fate x.fate c) f.0) q.1 f.1 in omega (arith, more, grows x.fate c q.0)

  -- the count begins at an element of this row, which isn't counted itself
  pub region : (n : ℕ) (row : Row) (e : Element) → Each (λ (x : Item). quiet x.fate ≡ true) (items_below (items n) row none_taken (children_of e)) → class (Read row) ≡ false → ((c : Counts) → field (with_fate (Read row) c) ≡ 0)
      → Good (items (suc n) (Read row) e) → count class (items (suc n) (Read row) e) ≤ limit
  unfolding items
  region n row e q is zero' h =
      let c = with_fate (Read row) h.start in
      let all = run c (items_below (items n) row none_taken (children_of e)) (omega (arith, zero' h.start)) q h.few.1 in
      omega (arith, all, zero' h.start, ap bit is)

-- POUs
abbrev pub is_pou : Fate → Bool
is_pou (Read Program) = true
is_pou (Read FunctionBlock) = true
is_pou _ = false

pous_grow : (f : Fate) (c : Counts) → true ≡ true → (with_fate f c).pous ≡ c.pous + bit (is_pou f)
pous_grow (Read Program) c h = refl
pous_grow (Read row) c h = omega arith
pous_grow (Skipped Comment) c h = omega arith
pous_grow (Skipped row) c h = omega arith
pous_grow f c h = omega arith

-- variables of a POU
abbrev pub is_variable : Fate → Bool
is_variable (Read Variable) = true
is_variable _ = false

variables_grow : (f : Fate) (c : Counts) → is_lower 7 f ≡ true → (with_fate f c).variables ≡ c.variables + bit (is_variable f)
variables_grow (Read Program) c h = absurd (cc)
variables_grow (Read FunctionBlock) c h = absurd (cc)
variables_grow (Read Variable) c h = refl
variables_grow (Read row) c h = omega arith
variables_grow (Skipped Comment) c h = omega arith
variables_grow (Skipped row) c h = omega arith
variables_grow f c h = omega arith

pub few_variables : (n : ℕ) (row : Row) (e : Element) → rank row ≡ 7 → is_variable (Read row) ≡ false → ((c : Counts) → (with_fate (Read row) c).variables ≡ 0) → Good (items (suc n) (Read row) e) → count is_variable (items (suc n) (Read row) e) ≤ max_variables
few_variables n row e is no' zero' h =
    region (λ c. c.variables) is_variable (is_lower 7) max_variables variables_grow (λ c f. f.variables) n row e (subst (λ k. Each (Lower k) (items_below (items n) row none_taken (children_of e))) is (lower n row e)) no' zero' h

-- elements of a body
abbrev pub is_element : Fate → Bool
is_element (Read Block) = true
is_element (Read InVariable) = true
is_element (Read OutVariable) = true
is_element (Read Contact) = true
is_element (Read Coil) = true
is_element (Read Connector) = true
is_element (Read Continuation) = true
is_element (Read Label) = true
is_element (Read Jump) = true
is_element (Read Return) = true
is_element (Read LeftRail) = true
is_element (Read RightRail) = true
is_element (Skipped Comment) = true
is_element (Skipped Vendor) = true
is_element _ = false

elements_grow : (f : Fate) (c : Counts) → is_lower 5 f ≡ true → (with_fate f c).elements ≡ c.elements + bit (is_element f)
elements_grow (Read Diagram) c h = absurd (cc)
elements_grow (Read row) c h = omega arith
elements_grow (Skipped Comment) c h = omega arith
elements_grow (Skipped row) c h = omega arith
elements_grow f c h = omega arith

pub few_elements : (n : ℕ) (e : Element) → Good (items (suc n) (Read Diagram) e) → count is_element (items (suc n) (Read Diagram) e) ≤ max_elements
few_elements n e h = region (λ c. c.elements) is_element (is_lower 5) max_elements elements_grow (λ c f. f.elements) n Diagram e (lower n Diagram e) refl (λ c. refl) h

-- their connections
abbrev pub is_connection : Fate → Bool
is_connection (Read Connection) = true
is_connection (Read RailConnection) = true
is_connection _ = false

connections_grow : (f : Fate) (c : Counts) → is_lower 5 f ≡ true → (with_fate f c).connections ≡ c.connections + bit (is_connection f)
connections_grow (Read Diagram) c h = absurd (cc)
connections_grow (Read row) c h = omega arith
connections_grow (Skipped Comment) c h = omega arith
connections_grow (Skipped row) c h = omega arith
connections_grow f c h = omega arith

pub few_connections : (n : ℕ) (e : Element) → Good (items (suc n) (Read Diagram) e) → count is_connection (items (suc n) (Read Diagram) e) ≤ max_connections
few_connections n e h = region (λ c. c.connections) is_connection (is_lower 5) max_connections connections_grow (λ c f. f.connections) n Diagram e (lower n Diagram e) refl (λ c. refl) h

-- the connections of a pin
abbrev pub is_pin_connection : Fate → Bool
is_pin_connection (Read Connection) = true
is_pin_connection _ = false

pin_connections_grow : (f : Fate) (c : Counts) → is_lower 1 f ≡ true → (with_fate f c).pin_connections ≡ c.pin_connections + bit (is_pin_connection f)
pin_connections_grow (Read PointIn) c h = absurd (cc)
pin_connections_grow (Read row) c h = omega arith
pin_connections_grow (Skipped Comment) c h = omega arith
pin_connections_grow (Skipped row) c h = omega arith
pin_connections_grow f c h = omega arith

pub few_at_pin : (n : ℕ) (e : Element) → Good (items (suc n) (Read PointIn) e) → count is_pin_connection (items (suc n) (Read PointIn) e) ≤ max_pin_connections
few_at_pin n e h = region (λ c. c.pin_connections) is_pin_connection (is_lower 1) max_pin_connections pin_connections_grow (λ c f. f.pin_connections) n PointIn e (lower n PointIn e) refl (λ c. refl) h

-- the pins of a list
abbrev pub is_pin : Fate → Bool
is_pin (Read InputPin) = true
is_pin (Read InOutPin) = true
is_pin _ = false

pins_grow : (f : Fate) (c : Counts) → is_lower 3 f ≡ true → (with_fate f c).pins ≡ c.pins + bit (is_pin f)
pins_grow (Read InputPins) c h = absurd (cc)
pins_grow (Read InOutPins) c h = absurd (cc)
pins_grow (Read row) c h = omega arith
pins_grow (Skipped Comment) c h = omega arith
pins_grow (Skipped row) c h = omega arith
pins_grow f c h = omega arith

pub few_pins : (n : ℕ) (row : Row) (e : Element) → rank row ≡ 3 → is_pin (Read row) ≡ false → ((c : Counts) → (with_fate (Read row) c).pins ≡ 0) → Good (items (suc n) (Read row) e) → count is_pin (items (suc n) (Read row) e) ≤ max_pins
few_pins n row e is no' zero' h =
    region (λ c. c.pins) is_pin (is_lower 3) max_pins pins_grow (λ c f. f.pins) n row e (subst (λ k. Each (Lower k) (items_below (items n) row none_taken (children_of e))) is (lower n row e)) no' zero' h

-- the POUs of a file
all_quiet : (xs : List Item) → Each (λ (x : Item). true ≡ true) xs
all_quiet [] = tt
all_quiet (x ∷ xs) = (refl, all_quiet xs)

pub few_pous : (xs : List Item) → FewFrom no_counts xs → count is_pou xs ≤ max_pous
few_pous xs h = let all = run (λ c. c.pous) is_pou (λ f. true) max_pous pous_grow (λ c f. f.pous) no_counts xs (omega arith) (all_quiet xs) h in omega (arith, all)
