-- The body of a POU that is in form.
use Rattle.std.proofs.Common.{◌≡◌, ℕ, suc, ◌+◌, ◌^◌, ◌≤◌, ◌<◌, nat_lt, Bool, true, false, ◌&&◌, ◌||◌, cond, List, [], ◌∷◌, length, map, Option, Some, None, option_map, option_and_then, codes, refl, sym, ap, subst, ◌∙◌, arith}
use Rattle.std.specs.List.{list_all, flat_map, sum_by}
use Rattle.std.specs.Str.{bytes_eq}
use Rattle.std.proofs.lemmas.Bool.Decides.{nat_tests}
use Rattle.std.proofs.lemmas.List.{length-append}
use Rattle.std.proofs.lemmas.List.Sums.{sum_by-append}
use Rattle.std.proofs.lemmas.Slice.Eq.{bytes_eq-Decides}
use Rattle.plcx_types.specs.Lists.{Each}
use Rattle.plcx_types.specs.Limits.{max_pin_connections, max_pins}
use Rattle.plcx_model.specs.Sound.{connections_of, connections, PinsAreFew, BodyIsSound}
use Rattle.plcx_model.specs.declared.body.Connection as model
use Rattle.plcx_model.specs.declared.body.PinIn.{PinIn}
use Rattle.plcx_model.specs.declared.body.Kind.{Kind}
use Rattle.plcx_model.specs.declared.body.Kind.TheVariants as kind
use Rattle.plcx_model.specs.declared.body.BodyElement.{BodyElement}
use Rattle.plcx_model.specs.declared.body.Body as model_body
use Rattle.plcx_xml.specs.Look.{name_of, children_of}
use Rattle.plcx_xml.specs.declared.tree.Node.{Node, out-Node}
use Rattle.plcx_xml.specs.declared.tree.Node.TheOpen.{Node-F}
use Rattle.plcx_xml.specs.declared.tree.Element.{Element}
use Rattle.plcx_table.specs.declared.limits.Counts.{Counts}
use Rattle.plcx_table.specs.declared.row.Row.{Row}
use Rattle.plcx_table.specs.declared.row.Row.TheVariants.{Body, Diagram, Block, InputPins, InOutPins, InputPin, InOutPin, PointIn, RailPoint, Connection, RailConnection, InVariable, OutVariable, Contact, Coil, Connector, Continuation, Label, Jump, Return, LeftRail, RightRail}
use Rattle.plcx_table.specs.declared.row.Fate.{Fate}
use Rattle.plcx_table.specs.declared.row.Fate.TheVariants.{Read, Refused, Skipped, Misplaced, Doubled}
use Rattle.plcx_table.specs.declared.row.Taken.{Taken}
use Rattle.plcx_table.specs.Constructs.{attribute_of, or_zero, number_at}
use Rattle.plcx_table.specs.Limits.{with_fate}
use Rattle.plcx_table.specs.Number.{number_of, digits_value, is_digit}
use Rattle.plcx_table.specs.Table.{Child, children}
use Rattle.plcx_table.specs.Walk.{fits, child_for, fate_for, fate_of, is_aside, items, first}
use Rattle.plcx_draft.specs.BodyIn.{connection_in, input_of, rail_point, rail_input, input_pin, block_in, kind_in, element_as, element_in, body_of, diagram_in, body_or, body_in}
use Rattle.plcx_draft.specs.Parts.{parts_of, parts_in, named, first_child, first_part}
use Rattle.plcx_sound.proofs.Variables.{and_true}
use Rattle.plcx_sound.proofs.Walked.{Good, if_some, option_weight, weigh, weight_at, sum_parts, children_light, parts_hold, parts_light, parts_counted, fate_is, IsTold, told_fate, told_good, child_holds, child_light, count, first_is, first_at_most}
use Rattle.plcx_sound.proofs.Sizes.{pins_are}
use Rattle.plcx_sound.proofs.Ranks.{rank, found_passes, is_element, few_elements, is_connection, few_connections, is_pin_connection, few_at_pin, is_pin, few_pins}

-- connections of a point
connection_named : (e : Element) (c : model.Connection) → connection_in e ≡ Some c → name_of e ≡ codes "connection"
unfolding connection_in
connection_named e c h = (if_some e (codes "connection") _ c h).1

connection_told : IsTold PointIn (codes "connection") (Read Connection)
unfolding is_aside child_for
connection_told = record { text = refl; aside = refl; told = λ e is. rw is refl }

rail_told : IsTold RailPoint (codes "connection") (Read RailConnection)
unfolding is_aside child_for
rail_told = record { text = refl; aside = refl; told = λ e is. rw is refl }

abbrev found : Element → List model.Connection
found e = parts_of connection_in e

point_counted : (class : Fate → Bool) → class (Read Connection) ≡ true → (n : ℕ) (e : Element) → Good (items (suc (suc n)) (Read PointIn) e) → length (found e) ≤ count class (items (suc (suc n)) (Read PointIn) e)
point_counted class is n e h =
    parts_counted connection_in n PointIn class (λ c a t at g. ap class (told_fate PointIn (codes "connection") (Read Connection) connection_told n t c (connection_named c a at) g) ∙ is) e h

rail_counted : (n : ℕ) (e : Element) → Good (items (suc (suc n)) (Read RailPoint) e) → length (found e) ≤ count is_connection (items (suc (suc n)) (Read RailPoint) e)
rail_counted n e h =
    parts_counted connection_in n RailPoint is_connection (λ c a t at g. ap is_connection (told_fate RailPoint (codes "connection") (Read RailConnection) rail_told n t c (connection_named c a at) g)) e h

point_few : (n : ℕ) (e : Element) → Good (items (suc (suc n)) (Read PointIn) e) → length (found e) ≤ max_pin_connections
point_few n e h = omega (arith, point_counted is_pin_connection refl n e h, few_at_pin (suc n) e h)

-- an element or a pin with one input
abbrev HasPoint : Row → Type 0
HasPoint r = IsTold r (codes "connectionPointIn") (Read PointIn)

module _ (r : Row) (told : HasPoint r) where
  input_few : (n : ℕ) (e : Element) → Good (items (suc (suc (suc n))) (Read r) e) → length (input_of e) ≤ max_pin_connections
  unfolding input_of
  input_few n e h = go (first_child (codes "connectionPointIn") e) refl
    where
      go : (o : Option Element) → first_child (codes "connectionPointIn") e ≡ o → length (parts_in connection_in o) ≤ max_pin_connections
      go None is = omega arith
      go (Some p) is = child_holds r (codes "connectionPointIn") (Read PointIn) told (suc n) (λ q. length (found q) ≤ max_pin_connections) (point_few n) e h p is

  input_weight : (o : Option Element) → length (parts_in connection_in o) ≡ option_weight (λ p. length (found p)) o
  input_weight None = refl
  input_weight (Some p) = refl

  input_counted : (n : ℕ) (e : Element) → Good (items (suc (suc (suc n))) (Read r) e) → length (input_of e) ≤ count is_connection (items (suc (suc (suc n))) (Read r) e)
  unfolding input_of
  input_counted n e h =
      omega (arith, child_light r (codes "connectionPointIn") (Read PointIn) told (suc n) is_connection (λ p. length (found p)) (point_counted is_connection refl n) e h, input_weight (first_child (codes "connectionPointIn") e))

-- a list of pins
record ArePins (r pin : Row) : Type 0 where
  pins : IsTold r (codes "variable") (Read pin)
  point : HasPoint pin
  counts : is_pin (Read pin) ≡ true
  deep : rank r ≡ 3
  uncounted : is_pin (Read r) ≡ false
  anew : (c : Counts) → (with_fate (Read r) c).pins ≡ 0

inputs_are : ArePins InputPins InputPin
unfolding is_aside child_for
inputs_are = record {
  pins = record { text = refl; aside = refl; told = λ e is. rw is refl };
  point = record { text = refl; aside = refl; told = λ e is. rw is refl };
  counts = refl;
  deep = refl;
  uncounted = refl;
  anew = λ c. refl;
}

in_outs_are : ArePins InOutPins InOutPin
unfolding is_aside child_for
in_outs_are = record {
  pins = record { text = refl; aside = refl; told = λ e is. rw is refl };
  point = record { text = refl; aside = refl; told = λ e is. rw is refl };
  counts = refl;
  deep = refl;
  uncounted = refl;
  anew = λ c. refl;
}

pin_read : (e : Element) (p : PinIn) → input_pin e ≡ Some p → (name_of e ≡ codes "variable") × (p.input ≡ input_of e)
unfolding input_pin
pin_read e p h = let got = if_some e (codes "variable") _ p h in (got.1, sym (ap (λ (q : PinIn). q.input) got.0))

abbrev pin_of : PinIn → ℕ
pin_of p = length p.input

module _ (r pin : Row) (are : ArePins r pin) where
  pins_few : (n : ℕ) (e : Element) → Good (items (suc (suc n)) (Read r) e) → length (parts_of input_pin e) ≤ max_pins
  pins_few n e h =
      omega (arith, parts_counted input_pin n r is_pin (λ c a t at g. ap is_pin (told_fate r (codes "variable") (Read pin) are.pins n t c (pin_read c a at).0 g) ∙ are.counts) e h, few_pins (suc n) r e are.deep are.uncounted are.anew h)

  pins_at : (n : ℕ) (e : Element) → Good (items (suc (suc (suc (suc n)))) (Read r) e) → Each (λ (p : PinIn). length p.input ≤ max_pin_connections) (parts_of input_pin e)
  pins_at n e h =
      parts_hold (suc (suc (suc n))) r input_pin (λ (p : PinIn). length p.input ≤ max_pin_connections)
      (λ c a t at g.
      let few = input_few pin are.point n c (told_good r (codes "variable") (Read pin) are.pins (suc (suc n)) t c (pin_read c a at).0 g) in
      omega (arith, few, ap (λ (i : List model.Connection). length i) (pin_read c a at).1)) e h

  pins_counted : (n : ℕ) (e : Element) → Good (items (suc (suc (suc (suc n)))) (Read r) e) → sum_by pin_of (parts_of input_pin e) ≤ count is_connection (items (suc (suc (suc (suc n)))) (Read r) e)
  pins_counted n e h =
      parts_light input_pin pin_of (suc (suc (suc n))) r is_connection
      (λ c a t at g.
      let light = input_counted pin are.point n c (told_good r (codes "variable") (Read pin) are.pins (suc (suc n)) t c (pin_read c a at).0 g) in
      let fate = told_fate r (codes "variable") (Read pin) are.pins (suc (suc n)) t c (pin_read c a at).0 g in
      omega (arith, light, ap (λ (i : List model.Connection). length i) (pin_read c a at).1, ap (λ f. count is_connection (items (suc (suc (suc n))) f c)) fate)) e h

-- two children of different names
two_names : (names : (List ℕ) × (List ℕ)) (e : Element) → bytes_eq names.0 names.1 ≡ false → bytes_eq (name_of e) names.0 ≡ true → bytes_eq (name_of e) names.1 ≡ false
two_names names e apart is = rw ((bytes_eq-Decides (name_of e) names.0).0 is) apart

abbrev weight_named : (Element → ℕ) → List ℕ → Element → ℕ
weight_named weight name e = option_weight weight (named name e)

weigh_sum : (v w : Element → ℕ) (ns : List Node) → weigh (λ e. v e + w e) ns ≡ weigh v ns + weigh w ns
weigh_sum v w [] = refl
weigh_sum v w (n ∷ ns) = omega (arith, weigh_sum v w ns, at (out-Node n))
  where
    at : (o : Node-F Node Element) → weight_at (λ e. v e + w e) o ≡ weight_at v o + weight_at w o
    at (Node-F.Element e) = refl
    at (Node-F.Text t) = refl

abbrev pins_weight : Element → ℕ
pins_weight e = sum_by pin_of (parts_of input_pin e)

block_inputs : IsTold Block (codes "inputVariables") (Read InputPins)
unfolding is_aside child_for
block_inputs = record { text = refl; aside = refl; told = λ e is. rw is refl }

block_in_outs : IsTold Block (codes "inOutVariables") (Read InOutPins)
unfolding is_aside child_for
block_in_outs = record { text = refl; aside = refl; told = λ e is. rw is refl }

abbrev both_weights : Element → ℕ
both_weights e = weight_named pins_weight (codes "inputVariables") e + weight_named pins_weight (codes "inOutVariables") e

fated : (r : Row) (name : List ℕ) (fate : Fate) (told : IsTold r name fate) (n : ℕ) (t : Taken) (e : Element) (w : ℕ) → name_of e ≡ name → Good (items (suc n) (fate_of r t e) e) → (Good (items (suc n) fate e) → w ≤ count is_connection (items (suc n) fate e))
    → w ≤ count is_connection (items (suc n) (fate_of r t e) e)
fated r name fate told n t e w is h light =
    let here = light (told_good r name fate told n t e is h) in
    omega (arith, here, ap (λ f. count is_connection (items (suc n) f e)) (told_fate r name fate told n t e is h))

both_light : (n : ℕ) (e : Element) (t : Taken) (a b : Bool) → bytes_eq (name_of e) (codes "inputVariables") ≡ a → bytes_eq (name_of e) (codes "inOutVariables") ≡ b → Good (items (suc (suc (suc (suc n)))) (fate_of Block t e) e)
    → option_weight pins_weight (cond a (Some e) None) + option_weight pins_weight (cond b (Some e) None) ≤ count is_connection (items (suc (suc (suc (suc n)))) (fate_of Block t e) e)
both_light n e t true true is also h =
    absurd (let no = two_names (codes "inputVariables", codes "inOutVariables") e refl is in cc)
both_light n e t true false is also h =
    let light = fated Block (codes "inputVariables") (Read InputPins) block_inputs (suc (suc (suc n))) t e (pins_weight e) ((bytes_eq-Decides (name_of e) (codes "inputVariables")).0 is) h (pins_counted InputPins InputPin inputs_are n e) in
    omega (arith, light)
both_light n e t false true is also h =
    let light = fated Block (codes "inOutVariables") (Read InOutPins) block_in_outs (suc (suc (suc n))) t e (pins_weight e) ((bytes_eq-Decides (name_of e) (codes "inOutVariables")).0 also) h (pins_counted InOutPins InOutPin in_outs_are n e) in
    omega (arith, light)
both_light n e t false false is also h = omega arith

first_weight : (name : List ℕ) (e : Element) → option_weight pins_weight (first_child name e) ≤ weigh (weight_named pins_weight name) (children_of e)
unfolding first_child first_part
first_weight name e = omega (arith, first_at_most pins_weight (parts_of (named name) e), sum_parts (named name) pins_weight e)

pins_of : (o : Option Element) → sum_by pin_of (parts_in input_pin o) ≡ option_weight pins_weight o
pins_of None = refl
pins_of (Some e) = refl

abbrev inputs : Element → List PinIn
inputs e = parts_in input_pin (first_child (codes "inputVariables") e)

abbrev in_outs : Element → List PinIn
in_outs e = parts_in input_pin (first_child (codes "inOutVariables") e)

block_counted : (n : ℕ) (e : Element) → Good (items (suc (suc (suc (suc (suc n))))) (Read Block) e) → sum_by pin_of (inputs e) + sum_by pin_of (in_outs e) ≤ count is_connection (items (suc (suc (suc (suc (suc n))))) (Read Block) e)
block_counted n e h =
    let all = children_light (suc (suc (suc (suc n)))) Block is_connection both_weights (λ c t g. both_light n c t (bytes_eq (name_of c) (codes "inputVariables")) (bytes_eq (name_of c) (codes "inOutVariables")) refl refl g) e h in
    omega (
      arith,
      all,
      weigh_sum (weight_named pins_weight (codes "inputVariables")) (weight_named pins_weight (codes "inOutVariables")) (children_of e),
      first_weight (codes "inputVariables") e,
      first_weight (codes "inOutVariables") e,
      pins_of (first_child (codes "inputVariables") e),
      pins_of (first_child (codes "inOutVariables") e),
    )

-- the lists of pins of a block
record PinsHold (ps : List PinIn) : Type 0 where
  few : length ps ≤ max_pins
  each : Each (λ (p : PinIn). length p.input ≤ max_pin_connections) ps

pins_hold : (name : List ℕ) (r pin : Row) → ArePins r pin → IsTold Block name (Read r) → (n : ℕ) (e : Element) → Good (items (suc (suc (suc (suc (suc n))))) (Read Block) e) → PinsHold (parts_in input_pin (first_child name e))
pins_hold name r pin are told n e h = go (first_child name e) refl
  where
    go : (o : Option Element) → first_child name e ≡ o → PinsHold (parts_in input_pin o)
    go None is = record { few = omega arith; each = tt }
    go (Some c) is =
        child_holds Block name (Read r) told (suc (suc (suc n))) (λ d. PinsHold (parts_of input_pin d)) (λ d g. record { few = pins_few r pin are (suc (suc n)) d g; each = pins_at r pin are n d g }) e h c is

-- right rails
abbrev rail_weight : Element → ℕ
rail_weight e = length (cond (bytes_eq (name_of e) (codes "connectionPointIn")) (found e) [])

rail_node : (o : Node-F Node Element) → length (rail_point o) ≡ weight_at rail_weight o
rail_node (Node-F.Element e) = refl
rail_node (Node-F.Text t) = refl

rail_nodes : (ns : List Node) → length (flat_map (λ (n : Node). rail_point (out-Node n)) ns) ≡ weigh rail_weight ns
rail_nodes [] = refl
rail_nodes (n ∷ ns) = omega (arith, length-append (rail_point (out-Node n)) (flat_map (λ (m : Node). rail_point (out-Node m)) ns), rail_node (out-Node n), rail_nodes ns)

rail_points : IsTold RightRail (codes "connectionPointIn") (Read RailPoint)
unfolding is_aside child_for
rail_points = record { text = refl; aside = refl; told = λ e is. rw is refl }

rail_light : (n : ℕ) (e : Element) (t : Taken) (b : Bool) → bytes_eq (name_of e) (codes "connectionPointIn") ≡ b → Good (items (suc (suc n)) (fate_of RightRail t e) e) → length (cond b (found e) []) ≤ count is_connection (items (suc (suc n)) (fate_of RightRail t e) e)
rail_light n e t true is h = fated RightRail (codes "connectionPointIn") (Read RailPoint) rail_points (suc n) t e (length (found e)) ((bytes_eq-Decides (name_of e) (codes "connectionPointIn")).0 is) h (rail_counted n e)
rail_light n e t false is h = omega arith

rail_input_counted : (n : ℕ) (e : Element) → Good (items (suc (suc (suc n))) (Read RightRail) e) → length (rail_input e) ≤ count is_connection (items (suc (suc (suc n))) (Read RightRail) e)
unfolding rail_input
rail_input_counted n e h =
    let all = children_light (suc (suc n)) RightRail is_connection rail_weight (λ c t g. rail_light n c t (bytes_eq (name_of c) (codes "connectionPointIn")) refl g) e h in
    omega (arith, all, rail_nodes (children_of e))

-- kinds
abbrev pin_length : List model.Connection → ℕ
pin_length pin = length pin

abbrev pub five : ℕ → ℕ
five n = suc (suc (suc (suc (suc n))))

record KindHolds (n : ℕ) (r : Row) (e : Element) (k : Kind) : Type 0 where
  counts : is_element (Read r) ≡ true
  connections : sum_by pin_length (connections_of k) ≤ count is_connection (items (five n) (Read r) e)
  pins : PinsAreFew k

out_point : HasPoint OutVariable
unfolding is_aside child_for
out_point = record { text = refl; aside = refl; told = λ e is. rw is refl }

contact_point : HasPoint Contact
unfolding is_aside child_for
contact_point = record { text = refl; aside = refl; told = λ e is. rw is refl }

coil_point : HasPoint Coil
unfolding is_aside child_for
coil_point = record { text = refl; aside = refl; told = λ e is. rw is refl }

connector_point : HasPoint Connector
unfolding is_aside child_for
connector_point = record { text = refl; aside = refl; told = λ e is. rw is refl }

jump_point : HasPoint Jump
unfolding is_aside child_for
jump_point = record { text = refl; aside = refl; told = λ e is. rw is refl }

return_point : HasPoint Return
unfolding is_aside child_for
return_point = record { text = refl; aside = refl; told = λ e is. rw is refl }

one_pin : (r : Row) (told : HasPoint r) (n : ℕ) (e : Element) → Good (items (five n) (Read r) e) → sum_by pin_length (input_of e ∷ []) ≤ count is_connection (items (five n) (Read r) e)
one_pin r told n e h = let light = input_counted r told (suc (suc n)) e h in omega (arith, light)

abbrev FewAtPin : List model.Connection → Type 0
FewAtPin pin = length pin ≤ max_pin_connections

one_few : (r : Row) (told : HasPoint r) (n : ℕ) (e : Element) → Good (items (five n) (Read r) e) → Each FewAtPin (input_of e ∷ [])
one_few r told n e h = (input_few r told (suc (suc n)) e h, tt)

some_is : {A : Type 0} {x y : A} → Some x ≡ Some y → x ≡ y
some_is h = cc

kind_holds : (n : ℕ) (r : Row) (e : Element) (k : Kind) → kind_in r e ≡ Some k → Good (items (five n) (Read r) e) → KindHolds n r e k
unfolding kind_in block_in
kind_holds n Block e k is h =
    let ins = pins_hold (codes "inputVariables") InputPins InputPin inputs_are block_inputs n e h in
    let outs = pins_hold (codes "inOutVariables") InOutPins InOutPin in_outs_are block_in_outs n e h in
    subst (KindHolds n Block e) (some_is is) (record {
      counts = refl;
      connections = omega (arith, block_counted n e h, pins_are (inputs e), pins_are (in_outs e), sum_by-append pin_length (map (λ (p : PinIn). p.input) (inputs e)) (map (λ (p : PinIn). p.input) (in_outs e)));
      pins = (ins.few, outs.few, ins.each, outs.each);
    })
kind_holds n OutVariable e k is h = subst (KindHolds n OutVariable e) (some_is is) (record { counts = refl; connections = one_pin OutVariable out_point n e h; pins = (one_few OutVariable out_point n e h) })
kind_holds n Contact e k is h = subst (KindHolds n Contact e) (some_is is) (record { counts = refl; connections = one_pin Contact contact_point n e h; pins = (one_few Contact contact_point n e h) })
kind_holds n Coil e k is h = subst (KindHolds n Coil e) (some_is is) (record { counts = refl; connections = one_pin Coil coil_point n e h; pins = (one_few Coil coil_point n e h) })
kind_holds n Connector e k is h = subst (KindHolds n Connector e) (some_is is) (record { counts = refl; connections = one_pin Connector connector_point n e h; pins = (one_few Connector connector_point n e h) })
kind_holds n Jump e k is h = subst (KindHolds n Jump e) (some_is is) (record { counts = refl; connections = one_pin Jump jump_point n e h; pins = (one_few Jump jump_point n e h) })
kind_holds n Return e k is h = subst (KindHolds n Return e) (some_is is) (record { counts = refl; connections = one_pin Return return_point n e h; pins = (one_few Return return_point n e h) })
kind_holds n RightRail e k is h = subst (KindHolds n RightRail e) (some_is is) (record { counts = refl; connections = (let light = rail_input_counted (suc (suc n)) e h in omega (arith, light)); pins = tt })
kind_holds n InVariable e k is h = subst (KindHolds n InVariable e) (some_is is) (record { counts = refl; connections = omega arith; pins = tt })
kind_holds n Continuation e k is h = subst (KindHolds n Continuation e) (some_is is) (record { counts = refl; connections = omega arith; pins = tt })
kind_holds n Label e k is h = subst (KindHolds n Label e) (some_is is) (record { counts = refl; connections = omega arith; pins = tt })
kind_holds n LeftRail e k is h = subst (KindHolds n LeftRail e) (some_is is) (record { counts = refl; connections = omega arith; pins = tt })
kind_holds n _ e k is h = absurd (cc)

-- elements
aside_name : (e : Element) (name : List ℕ) (fate : Fate) → name_of e ≡ name → (name_of e ≡ name → fate_for Diagram e ≡ None) → fate_for Diagram e ≡ Some fate → ⊥
aside_name e name fate is none some = let both : None ≡ Some fate = sym (none is) ∙ some in cc

no_documentation : (e : Element) → name_of e ≡ codes "documentation" → fate_for Diagram e ≡ None
unfolding child_for
no_documentation e is = rw is refl

no_data : (e : Element) → name_of e ≡ codes "addData" → fate_for Diagram e ≡ None
unfolding child_for
no_data e is = rw is refl

not_aside : (e : Element) (fate : Fate) (a b : Bool) → bytes_eq (name_of e) (codes "documentation") ≡ a → bytes_eq (name_of e) (codes "addData") ≡ b → fate_for Diagram e ≡ Some fate → (a || b) ≡ false
not_aside e fate true b is also some = absurd (aside_name e (codes "documentation") fate ((bytes_eq-Decides (name_of e) (codes "documentation")).0 is) (no_documentation e) some)
not_aside e fate false true is also some = absurd (aside_name e (codes "addData") fate ((bytes_eq-Decides (name_of e) (codes "addData")).0 also) (no_data e) some)
not_aside e fate false false is also some = refl

aside_none : (e : Element) (fate : Fate) → fate_for Diagram e ≡ Some fate → is_aside (name_of e) ≡ false
unfolding is_aside
aside_none e fate some = not_aside e fate (bytes_eq (name_of e) (codes "documentation")) (bytes_eq (name_of e) (codes "addData")) refl refl some

-- what is skipped in a diagram is an element of it
abbrev skips_element : Fate → Bool
skips_element (Skipped r) = is_element (Skipped r)
skips_element _ = true

skipped_child : (e : Element) (c : Option Child) (r : Row) → child_for Diagram e ≡ c → option_map (λ (d : Child). d.fate) c ≡ Some (Skipped r) → is_element (Skipped r) ≡ true
unfolding child_for
skipped_child e None r is some = absurd (cc)
skipped_child e (Some c) r is some =
    let same : c.fate ≡ Skipped r = cc in
    subst (λ f. skips_element f ≡ true) same (found_passes (fits e) (λ (d : Child). skips_element d.fate) (children Diagram) c refl is)

-- a number of an attribute
small_number : (text : List ℕ) (b : Bool) → (b ≡ true → digits_value text < 2 ^ 64) → or_zero (cond b (Some (digits_value text)) None) < 2 ^ 64
small_number text true h = h refl
small_number text false h = omega arith

number_small : (text : List ℕ) → or_zero (number_of text) < 2 ^ 64
unfolding number_of
number_small text =
    small_number text (nat_lt 0 (length text) && list_all is_digit text && nat_lt (digits_value text) (2 ^ 64)) (λ h.
    let less = (and_true (nat_lt 0 (length text) && list_all is_digit text) (nat_lt (digits_value text) (2 ^ 64)) h).1 in below_limit (digits_value text) less)
  where
    below_limit : (n : ℕ) → nat_lt n (2 ^ 64) ≡ true → n < 2 ^ 64
    below_limit n h = grind (arith, nat_tests)

id_small : (e : Element) → number_at (codes "localId") e < 2 ^ 64
unfolding number_at
id_small e = number_small (attribute_of (codes "localId") e)

record ElementHolds (n : ℕ) (fate : Fate) (e : Element) (el : BodyElement) : Type 0 where
  small : el.local_id < 2 ^ 64
  counts : is_element fate ≡ true
  connected : connections el ≤ count is_connection (items (five n) fate e)
  pins : PinsAreFew el.kind

skipped_few : PinsAreFew kind.Skipped
skipped_few = tt

placed : (n : ℕ) (r : Row) (e : Element) (el : BodyElement) (k : Option Kind) (make : Kind → BodyElement) → ((q : Kind) → (make q).kind ≡ q) → ((q : Kind) → (make q).local_id < 2 ^ 64) → kind_in r e ≡ k → option_map make k ≡ Some el → Good (items (five n) (Read r) e) → ElementHolds n (Read r) e el
placed n r e el None make keeps small is some h = absurd (cc)
placed n r e el (Some k) make keeps small is some h =
    let holds = kind_holds n r e k is h in
    let same : k ≡ el.kind = sym (keeps k) ∙ ap (λ (b : BodyElement). b.kind) (some_is some) in
    record {
      small = subst (λ (b : BodyElement). b.local_id < 2 ^ 64) (some_is some) (small k);
      counts = holds.counts;
      connected = subst (λ (q : Kind). sum_by pin_length (connections_of q) ≤ count is_connection (items (five n) (Read r) e)) same holds.connections;
      pins = subst PinsAreFew same holds.pins;
    }

element_holds : (n : ℕ) (e : Element) (el : BodyElement) (t : Taken) (o : Option Fate) → fate_for Diagram e ≡ o → element_as o e ≡ Some el → Good (items (five n) (fate_of Diagram t e) e) → ElementHolds n (fate_of Diagram t e) e el
element_holds n e el t (Some (Read r)) told some h =
    let fate = fate_is (suc (suc (suc (suc n)))) Diagram t e (Read r) refl (aside_none e (Read r) told) told h in
    let good = subst (λ f. Good (items (five n) f e)) fate h in
    subst (λ f. ElementHolds n f e el) (sym fate) (placed n r e el (kind_in r e) _ (λ q. refl) (λ q. id_small e) refl some good)
element_holds n e el t (Some (Skipped r)) told some h =
    let fate = fate_is (suc (suc (suc (suc n)))) Diagram t e (Skipped r) refl (aside_none e (Skipped r) told) told h in
    let same : kind.Skipped ≡ el.kind = ap (λ (b : BodyElement). b.kind) (some_is some) in
    subst (λ f. ElementHolds n f e el) (sym fate) (record {
      small = subst (λ (b : BodyElement). b.local_id < 2 ^ 64) (some_is some) (id_small e);
      counts = skipped_child e (child_for Diagram e) r refl told;
      connected = subst (λ (q : Kind). sum_by pin_length (connections_of q) ≤ count is_connection (items (five n) (Skipped r) e)) same (omega arith);
      pins = subst PinsAreFew same skipped_few;
    })
element_holds n e el t (Some (Refused r)) told some h = absurd (cc)
element_holds n e el t (Some Misplaced) told some h = absurd (cc)
element_holds n e el t (Some Doubled) told some h = absurd (cc)
element_holds n e el t None told some h = absurd (cc)

element_in_holds : (n : ℕ) (e : Element) (el : BodyElement) (t : Taken) → element_in e ≡ Some el → Good (items (five n) (fate_of Diagram t e) e) → ElementHolds n (fate_of Diagram t e) e el
unfolding element_in
element_in_holds n e el t some h = element_holds n e el t (fate_for Diagram e) refl some h

diagram_sound : (n : ℕ) (ladder : Bool) (e : Element) → Good (items (suc (five n)) (Read Diagram) e) → BodyIsSound (body_of ladder e)
diagram_sound n ladder e h = record {
  elements = omega (arith, parts_counted element_in (suc (suc (suc (suc n)))) Diagram is_element (λ c a t at g. (element_in_holds n c a t at g).counts) e h, few_elements (five n) e h);
  connections = omega (arith, parts_light element_in connections (five n) Diagram is_connection (λ c a t at g. (element_in_holds n c a t at g).connected) e h, few_connections (five n) e h);
  pins = (parts_hold (five n) Diagram element_in (λ (b : BodyElement). PinsAreFew b.kind) (λ c a t at g. (element_in_holds n c a t at g).pins) e h);
  ids = parts_hold (five n) Diagram element_in (λ (b : BodyElement). b.local_id < 2 ^ 64) (λ c a t at g. (element_in_holds n c a t at g).small) e h;
}

-- the body of a POU
function_diagram : IsTold Body (codes "FBD") (Read Diagram)
unfolding is_aside child_for
function_diagram = record { text = refl; aside = refl; told = λ e is. rw is refl }

ladder_diagram : IsTold Body (codes "LD") (Read Diagram)
unfolding is_aside child_for
ladder_diagram = record { text = refl; aside = refl; told = λ e is. rw is refl }

diagram_at : (n : ℕ) (e : Element) (t : Taken) (b : model_body.Body) (f l : Bool) → bytes_eq (name_of e) (codes "FBD") ≡ f → bytes_eq (name_of e) (codes "LD") ≡ l → cond f (Some (body_of false e)) (cond l (Some (body_of true e)) None) ≡ Some b
    → Good (items (suc (five n)) (fate_of Body t e) e) → BodyIsSound b
diagram_at n e t b true l is also some h =
    subst BodyIsSound (some_is some) (diagram_sound n false e (told_good Body (codes "FBD") (Read Diagram) function_diagram (five n) t e ((bytes_eq-Decides (name_of e) (codes "FBD")).0 is) h))
diagram_at n e t b false true is also some h =
    subst BodyIsSound (some_is some) (diagram_sound n true e (told_good Body (codes "LD") (Read Diagram) ladder_diagram (five n) t e ((bytes_eq-Decides (name_of e) (codes "LD")).0 also) h))
diagram_at n e t b false false is also some h = absurd (cc)

diagram_in_sound : (n : ℕ) (e : Element) (b : model_body.Body) (t : Taken) → diagram_in e ≡ Some b → Good (items (suc (five n)) (fate_of Body t e) e) → BodyIsSound b
unfolding diagram_in
diagram_in_sound n e b t some h = diagram_at n e t b (bytes_eq (name_of e) (codes "FBD")) (bytes_eq (name_of e) (codes "LD")) refl refl some h

empty_sound : BodyIsSound (body_or None)
empty_sound = record { elements = omega arith; connections = omega arith; pins = tt; ids = tt }

pub body_sound : (r : Row) → IsTold r (codes "body") (Read Body) → (n : ℕ) (e : Element) → Good (items (suc (suc (suc (five n)))) (Read r) e) → BodyIsSound (body_in e)
unfolding body_in first_part
body_sound r told n e h = go (first_child (codes "body") e) refl
  where
    inner : (b : Element) (o : Option model_body.Body) → first (parts_of diagram_in b) ≡ o → Each BodyIsSound (parts_of diagram_in b) → BodyIsSound (body_or o)
    inner b None is all = empty_sound
    inner b (Some d) is all = first_is BodyIsSound (parts_of diagram_in b) d all is

    go : (o : Option Element) → first_child (codes "body") e ≡ o → BodyIsSound (body_or (option_and_then (first_part diagram_in) o))
    go None is = empty_sound
    go (Some b) is =
        inner b (first (parts_of diagram_in b)) refl
        (child_holds r (codes "body") (Read Body) told (suc (five n)) (λ c. Each BodyIsSound (parts_of diagram_in c)) (λ c g. parts_hold (suc (five n)) Body diagram_in BodyIsSound (diagram_in_sound n) c g) e h b is)
