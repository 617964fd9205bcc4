-- The printed form of a diagram's statements is not deep.
use Rattle.std.proofs.Common.{◌≡◌, ℕ, suc, ◌+◌, ◌≤◌, pos, Bool, true, false, List, [], ◌∷◌, ◌++◌, length, map, refl, arith, codes, leb-true}
use Rattle.std.specs.Prelude.{Option, Some, None, is_some, nat_le, if◌then◌else◌}
use Rattle.std.proofs.lemmas.Bool.{and_parts}
use Rattle.std.proofs.lemmas.List.{length-map}
use Rattle.plcx_types.specs.declared.ty.Ty.{Ty}
use Rattle.plcx_funcs.specs.declared.func.Func.{Func}
use Rattle.plcx_funcs.specs.declared.func.Func.TheVariants as func
use Rattle.plcx_funcs.specs.Pins.{least_inputs, most_inputs, can_have}
use Rattle.plcx_types.specs.Limits.{max_pin_connections}
use Rattle.plcx_types.specs.Lists.{Each}
use Rattle.plcx_meaning.specs.Base.{Memory, AtEdge}
use Rattle.plcx_meaning.specs.Tree.{Operator, Or, Xor, And, Equal, NotEqual, Less, Greater, LessOrEqual, GreaterOrEqual, Plus, Minus, Times, Divide, Mod, Expression, Name, Member, Not, Binary, Argument, Statement, Assign, If, While, Case, statements, arms}
use Rattle.plcx_meaning.specs.Tree as tree
use Rattle.plcx_meaning.specs.Layout.{Variable}
use Rattle.plcx_meaning.specs.Functions.{can_apply}
use Rattle.plcx_meaning.specs.Diagram.{Source, Rail, Literal, Wire, Back, Link, Operand, Own, Output, Storing, Stored, Inverted, Set, Reset, Contacting, Open, Closed, RisingContact, FallingContact, Coiling, By, RisingCoil, FallingCoil, Enable, InputPin, InOutPin, OutputPin, ElementKind, Still, In, Out, Contact, Coil, Pass, Label, Jump, Return, Function, Call, Port, eno_negated, DiagramElement, has_jump, Pou, Project}
use Rattle.plcx_meaning.specs.Evaluate.{leads_to}
use Rattle.plcx_meaning.specs.Templates.{number, truth, dint, not_if, both, wire, wire_name, memory, memory_name, counter_name, source_text, or_text, link_text, operand_text, store_text, contact_text, contact_edge, coil_text, function_text, eno_text, enabled, turned_if, out_default, input_text, in_out_text, output_text, kind_text, feed_text, element_text, elements_text, choice_text, choices_text, turn_text, arms_text, straight_text, jumping_text, body_text}
use Rattle.plcx_meaning.specs.Fits.{Standing, LinkFits, EnableFits, InputFits, KindFits, fixed_by, ElementsFit}
use Rattle.plcx_meaning.proofs.Lists.{each_append, each_map, each_from, each_weaker}
use Rattle.plcx_st.specs.Depth.{expression_depth, arguments_depth, statement_depth, statements_depth, arms_depth}
use Rattle.plcx_st.proofs.Deep.{Low, max_low, weaker, number_low, name_low, member_low, not_low, binary_low, or_low, neighbours_low, chain_low, negation_low, apply_low}

not_if_low : (b : Bool) (n : ℕ) (e : Expression) → Low n e → Low (suc n) (not_if b e)
not_if_low true n e h = not_low n e h
not_if_low false n e h = weaker n (suc n) e (omega arith) h

source_low : (t : Ty) (s : Source) → Low 2 (source_text t s)
source_low t Rail = weaker 1 2 (truth true) (omega arith) (number_low _)
source_low t (Literal negated n) = not_if_low negated 1 (number t n) (number_low _)
source_low t (Wire id pin) = weaker 1 2 (wire id pin) (omega arith) (name_low _)
source_low t (Back id pin) = weaker 1 2 (source_text t (Back id pin)) (omega arith) (name_low _)

link_low : (link : Link) → length (link.first ∷ link.others) ≤ max_pin_connections → Low 67 (link_text link)
link_low link few =
    let count = length-map link.others (source_text link.ty) in
    not_if_low link.negated 66 _
    (weaker _ 66 (or_text (source_text link.ty link.first) (map (source_text link.ty) link.others)) (omega arith)
    (or_low 2 (source_text link.ty link.first) (map (source_text link.ty) link.others) (source_low link.ty link.first) (each_map (Low 2) (source_text link.ty) link.others (each_from _ link.others (λ s there. source_low link.ty s)))))

operand_low : (operand : Operand) → Low 1 (operand_text operand)
operand_low (Own x) = name_low x
operand_low (Output i x) = member_low i x

-- ---- functions

most_few : (f : Func) → most_inputs f ≤ 63
most_few func.Add = omega arith
most_few func.Mul = omega arith
most_few func.Sub = omega arith
most_few func.Div = omega arith
most_few func.Mod = omega arith
most_few func.Abs = omega arith
most_few func.Move = omega arith
most_few func.And = omega arith
most_few func.Or = omega arith
most_few func.Xor = omega arith
most_few func.Not = omega arith
most_few func.Shl = omega arith
most_few func.Shr = omega arith
most_few func.Rol = omega arith
most_few func.Ror = omega arith
most_few func.Sel = omega arith
most_few func.Max = omega arith
most_few func.Min = omega arith
most_few func.Limit = omega arith
most_few func.Mux = omega arith
most_few func.Gt = omega arith
most_few func.Ge = omega arith
most_few func.Eq = omega arith
most_few func.Le = omega arith
most_few func.Lt = omega arith
most_few func.Ne = omega arith
most_few (func.Conv from to) = omega arith

few_inputs : (f : Func) (t : Ty) (types : List Ty) → can_apply f t types ≡ true → length types ≤ 63
few_inputs f t types h =
    let counts = and_parts (nat_le (least_inputs f) (length types)) (nat_le (length types) (most_inputs f)) (and_parts (can_have f (length types)) _ h).0 in
    let most = leb-true (length types) (most_inputs f) counts.1 in
    let few = most_few f in
    omega arith

module _ (es : List Expression) (few : length es ≤ 63) (all : Each (Low 67) es) where
  chained : (op : Operator) → Low 140 (Rattle.plcx_meaning.specs.Templates.chain op es)
  chained op = weaker _ 140 _ (omega arith) (chain_low op 67 es (omega arith) all)

  beside : (op : Operator) → Low 140 (Rattle.plcx_meaning.specs.Templates.neighbours op es)
  beside op = weaker _ 140 _ (omega arith) (neighbours_low op 67 es (omega arith) all)

  called : (f : List ℕ) → Low 140 (tree.Apply f (tree.expressions es))
  called f = weaker 68 140 _ (omega arith) (apply_low f 67 es all)

  function_low : (f : Func) → Low 140 (function_text f es)
  function_low func.Add = chained Plus
  function_low func.Mul = chained Times
  function_low func.Sub = chained Minus
  function_low func.Div = chained Divide
  function_low func.Mod = chained Mod
  function_low func.And = chained And
  function_low func.Or = chained Or
  function_low func.Xor = chained Xor
  function_low func.Not = weaker 68 140 _ (omega arith) (negation_low 67 es (omega arith) all)
  function_low func.Gt = beside Greater
  function_low func.Ge = beside GreaterOrEqual
  function_low func.Eq = beside Equal
  function_low func.Le = beside LessOrEqual
  function_low func.Lt = beside Less
  function_low func.Ne = chained NotEqual
  function_low func.Abs = called _
  function_low func.Move = called _
  function_low func.Shl = called _
  function_low func.Shr = called _
  function_low func.Rol = called _
  function_low func.Ror = called _
  function_low func.Sel = called _
  function_low func.Max = called _
  function_low func.Min = called _
  function_low func.Limit = called _
  function_low func.Mux = called _
  function_low (func.Conv from to) = called _

-- ---- contacts

and_low : (n : ℕ) (a b : Expression) → Low n a → Low n b → Low (suc (suc n)) (both a b)
and_low n a b h k = binary_low And a b n (h 2) (k 3)

contact_low : (how : Contacting) (l v m : Expression) → Low 67 l → Low 67 v → Low 67 m → Low 72 (contact_text how l v m)
contact_low Open l v m hl hv hm = weaker 69 72 _ (omega arith) (and_low 67 l v hl hv)
contact_low Closed l v m hl hv hm = weaker 70 72 _ (omega arith) (and_low 68 l (Not v) (weaker 67 68 l (omega arith) hl) (not_low 67 v hv))
contact_low RisingContact l v m hl hv hm = weaker 71 72 _ (omega arith) (and_low 69 (both l v) (Not m) (and_low 67 l v hl hv) (weaker 68 69 _ (omega arith) (not_low 67 m hm)))
contact_low FallingContact l v m hl hv hm = and_low 70 (both l (Not v)) m (and_low 68 l (Not v) (weaker 67 68 l (omega arith) hl) (not_low 67 v hv)) (weaker 67 70 m (omega arith) hm)

-- ---- statements

abbrev Shallow : ℕ → Statement → Type 0
Shallow n s = statement_depth s ≤ n

abbrev Flat : Statement → Type 0
Flat = Shallow 142

assign_low : (n : ℕ) (x : List ℕ) (e : Expression) → Low n e → Shallow (suc n) (Assign x e)
unfolding statement_depth
assign_low n x e h = let bound = h 0 in omega arith

all_low : (n : ℕ) (ss : List Statement) → Each (Shallow n) ss → statements_depth (statements ss) ≤ n
unfolding statement_depth
all_low n [] h = omega arith
all_low n (s ∷ ss) h = max_low (statement_depth s) (statements_depth (statements ss)) n h.0 (all_low n ss h.1)

if_low : (n : ℕ) (e : Expression) (s : Statement) → Low n e → Shallow n s → Shallow (suc n) (If e (statements (s ∷ [])))
unfolding statement_depth
if_low n e s h k = let bound = max_low (expression_depth 0 e) (statements_depth (statements (s ∷ []))) n (h 0) (all_low n (s ∷ []) (k, tt)) in omega arith

-- an assignment of an expression that is not too deep
set_low : (n : ℕ) → n ≤ 140 → (x : List ℕ) (e : Expression) → Low n e → Shallow 141 (Assign x e)
set_low n low x e h = assign_low 140 x e (weaker n 140 e low h)

flat : (s : Statement) → Shallow 141 s → Flat s
flat s h = omega arith

assigned : (n : ℕ) → n ≤ 140 → (x : List ℕ) (e : Expression) → Low n e → Flat (Assign x e)
assigned n low x e h = flat (Assign x e) (set_low n low x e h)

set_truth : (b : Bool) (x : List ℕ) → Shallow 141 (Assign x (truth b))
set_truth b x = set_low 1 (omega arith) x (truth b) (number_low _)

store_low : (how : Storing) (x : List ℕ) (e : Expression) → Low 67 e → Flat (store_text how x e)
store_low Stored x e h = assigned 67 (omega arith) x e h
store_low Inverted x e h = assigned 68 (omega arith) x (Not e) (not_low 67 e h)
store_low Set x e h = if_low 141 e (Assign x (truth true)) (weaker 67 141 e (omega arith) h) (set_truth true x)
store_low Reset x e h = if_low 141 e (Assign x (truth false)) (weaker 67 141 e (omega arith) h) (set_truth false x)

wire_low : (id : ℕ) (pin : List ℕ) → Low 67 (wire id pin)
wire_low id pin = weaker 1 67 (wire id pin) (omega arith) (name_low _)

memory_low : (k : Memory) → Low 67 (memory k)
memory_low k = weaker 1 67 (memory k) (omega arith) (name_low _)

edge_low : (how : Contacting) (k : Memory) (v : Expression) → Low 67 v → Each Flat (contact_edge how k v)
edge_low Open k v h = tt
edge_low Closed k v h = tt
edge_low RisingContact k v h = (assigned 67 (omega arith) (memory_name k) v h, tt)
edge_low FallingContact k v h = (assigned 67 (omega arith) (memory_name k) v h, tt)

coil_low : (how : Coiling) (x : List ℕ) (k : Memory) (w : Expression) → Low 67 w → Each Flat (coil_text how x k w)
coil_low (By how) x k w h = (store_low how x w h, tt)
coil_low RisingCoil x k w h = (
  assigned 70 (omega arith) x (both w (Not (memory k))) (and_low 68 w (Not (memory k)) (weaker 67 68 w (omega arith) h) (not_low 67 (memory k) (memory_low k))),
  (assigned 67 (omega arith) (memory_name k) w h, tt),
)
coil_low FallingCoil x k w h = (
  assigned 70 (omega arith) x (both (Not w) (memory k)) (and_low 68 (Not w) (memory k) (not_low 67 w h) (weaker 67 68 (memory k) (omega arith) (memory_low k))),
  (assigned 67 (omega arith) (memory_name k) w h, tt),
)

turned_low : (b : Bool) (id : ℕ) (pin : List ℕ) → Each Flat (turned_if b id pin)
turned_low true id pin = (assigned 68 (omega arith) (wire_name id pin) (Not (wire id pin)) (not_low 67 (wire id pin) (wire_low id pin)), tt)
turned_low false id pin = tt

default_low : (id : ℕ) (enable : Enable) (t : Ty) → Each Flat (out_default id enable t)
default_low id enable t = by (is_some enable.en)
  where
    by : (b : Bool) → Each Flat (if b then Assign (wire_name id (codes "OUT")) (number t (pos 0)) ∷ [] else [])
    by true = (assigned 1 (omega arith) (wire_name id (codes "OUT")) (number t (pos 0)) (number_low _), tt)
    by false = tt

enabled_low : (id : ℕ) (enable : Enable) (s : Statement) → Shallow 141 s → Flat (enabled id enable s)
enabled_low id enable s h = by (is_some enable.en)
  where
    by : (b : Bool) → Flat (if b then If (wire id (codes "ENO")) (statements (s ∷ [])) else s)
    by true = if_low 141 (wire id (codes "ENO")) s (weaker 67 141 _ (omega arith) (wire_low id (codes "ENO"))) h
    by false = flat s h

arguments_low : (args : List Argument) → Each (λ (a : Argument). Low 67 a.value) args → arguments_depth args ≤ 67
unfolding arguments_depth
arguments_low [] h = omega arith
arguments_low (a ∷ args) h = max_low (expression_depth 0 a.value) (arguments_depth args) 67 (h.0 0) (arguments_low args h.1)

call_low : (instance : List ℕ) (args : List Argument) → Each (λ (a : Argument). Low 67 a.value) args → Shallow 141 (tree.Call instance args)
unfolding statement_depth
call_low instance args h = let bound = arguments_low args h in omega arith

module _ (at : Standing) where
  eno_low : (id : ℕ) (enable : Enable) → EnableFits at enable → Each Flat (eno_text id enable)
  eno_low id enable fit = by enable.en enable.eno fit
    where
      by : (en : Option Link) (listed : Option Bool) → ((link : Link) → en ≡ Some link → LinkFits at link × (link.ty ≡ Rattle.plcx_types.specs.declared.ty.Ty.TheVariants.Bool)) → Each Flat (eno_text id (record { en = en; eno = listed }))
      by (Some link) listed h = (assigned 67 (omega arith) (wire_name id (codes "ENO")) (link_text link) (link_low link (h link refl).0.few), tt)
      by None (Some negated) h = (assigned 1 (omega arith) (wire_name id (codes "ENO")) (truth true) (number_low _), tt)
      by None None h = tt

  links_low : (links : List Link) → Each (LinkFits at) links → Each (Low 67) (map link_text links)
  links_low links h = each_map (Low 67) link_text links (each_weaker (LinkFits at) _ links (λ l fit. link_low l fit.few) h)

  inputs_low : (within : List Variable) (ins : List InputPin) → Each (InputFits at within) ins → Each (λ (a : Argument). Low 67 a.value) (map input_text ins)
  inputs_low within ins h = each_map _ input_text ins (each_weaker (InputFits at within) _ ins (λ i fit. link_low i.link fit.1.few) h)

  in_outs_low : (ins : List InOutPin) → Each (λ (a : Argument). Low 67 a.value) (map in_out_text ins)
  in_outs_low ins = each_map _ in_out_text ins (each_from _ ins (λ i there. weaker 1 67 (Name i.variable) (omega arith) (name_low i.variable)))

  outputs_low : (id : ℕ) (instance : List ℕ) (outs : List OutputPin) → Each Flat (map (output_text id instance) outs)
  outputs_low id instance outs = each_map Flat (output_text id instance) outs (each_from _ outs (λ o there. assigned 2 (omega arith) (wire_name id o.name) (not_if o.negated (Member instance o.name)) (not_if_low o.negated 1 (Member instance o.name) (member_low instance o.name))))

  kind_low : (k : ElementKind) (id : ℕ) → KindFits at k → Each Flat (kind_text k id)
  kind_low Still id h = tt
  kind_low (In t negated operand) id h = (assigned 2 (omega arith) (wire_name id []) (not_if negated (operand_text operand)) (not_if_low negated 1 (operand_text operand) (operand_low operand)), tt)
  kind_low (Out how x link) id h = (store_low how x (link_text link) (link_low link h.2.few), tt)
  kind_low (Contact how operand link) id h =
      let v = weaker 1 67 (operand_text operand) (omega arith) (operand_low operand) in (
        assigned 72 (omega arith) (wire_name id []) (contact_text how (link_text link) (operand_text operand) (memory (AtEdge id)))
            (contact_low how (link_text link) (operand_text operand) (memory (AtEdge id)) (link_low link h.1.0.few) v (memory_low (AtEdge id))),
        edge_low how (AtEdge id) (operand_text operand) v,
      )
  kind_low (Coil how x link) id h = (assigned 67 (omega arith) (wire_name id []) (link_text link) (link_low link h.1.0.few), coil_low how x (AtEdge id) (wire id []) (wire_low id []))
  kind_low (Pass link) id h = (assigned 67 (omega arith) (wire_name id []) (link_text link) (link_low link h.few), tt)
  kind_low (Label name) id h = tt
  kind_low (Jump label link) id h = (assigned 67 (omega arith) (wire_name id []) (link_text link) (link_low link h.0.few), tt)
  kind_low (Return link) id h = (assigned 67 (omega arith) (wire_name id []) (link_text link) (link_low link h.0.few), tt)
  kind_low (Function f t enable links negated) id h =
      let count = length-map links link_text in
      let typed = length-map links (λ (l : Link). l.ty) in
      let few = few_inputs f t (map (λ (l : Link). l.ty) links) h.0.applies in
      let value = function_low (map link_text links) (omega arith) (links_low links h.0.inputs) f in
      each_append Flat (eno_text id enable) _ (eno_low id enable h.1)
      (each_append Flat (out_default id enable _) _ (default_low id enable _) (
        enabled_low id enable _ (set_low 140 (omega arith) (wire_name id (codes "OUT")) (function_text f (map link_text links)) value),
        each_append Flat (turned_if (eno_negated enable) id (codes "ENO")) _ (turned_low (eno_negated enable) id (codes "ENO")) (turned_low negated id (codes "OUT")),
      ))
  kind_low (Call instance enable ins bound outs) id h =
      each_append Flat (eno_text id enable) _ (eno_low id enable h.1) (
        enabled_low id enable _ (call_low instance (map input_text ins ++ map in_out_text bound) (each_append _ (map input_text ins) (map in_out_text bound) (inputs_low h.0.within ins h.0.inputs) (in_outs_low bound))),
        each_append Flat (map (output_text id instance) outs) _ (outputs_low id instance outs) (turned_low (eno_negated enable) id (codes "ENO")),
      )

module _ (project : Project) (p : Pou) where
  elements_low : (done : List (ℕ × Port)) (es : List DiagramElement) → ElementsFit project p done es → Each Flat (elements_text es)
  elements_low done [] h = tt
  elements_low done (e ∷ es) h =
      each_append Flat (element_text e) (elements_text es)
      (each_append Flat (kind_text e.kind e.id) (map (feed_text e.id) e.fed)
      (kind_low (record { project = project; pou = p; done = done }) e.kind e.id h.2)
      (each_map Flat (feed_text e.id) e.fed (each_from _ e.fed (λ o there. assigned 67 (omega arith) _ (wire e.id o.pin) (wire_low e.id o.pin)))))
      (elements_low (fixed_by e ++ done) es h.3)

  straight_low : (networks : List (List DiagramElement)) → Each (ElementsFit project p []) networks → Each Flat (straight_text networks)
  straight_low [] h = tt
  straight_low (network ∷ networks) h = each_append Flat (elements_text network) (straight_text networks) (elements_low [] network h.0) (straight_low networks h.1)

  choice_low : (networks : List (List DiagramElement)) (e : DiagramElement) → Each Flat (choice_text networks e)
  choice_low networks e = by (leads_to networks e.kind)
    where
      by : (o : Option ℕ) → Each Flat (elim o [ Some n ↦ If (wire e.id []) (statements (Assign counter_name (dint n) ∷ [])) ∷ [] | None ↦ [] ])
      by (Some n) = (if_low 141 (wire e.id []) (Assign counter_name (dint n)) (weaker 67 141 _ (omega arith) (wire_low e.id [])) (set_low 1 (omega arith) counter_name (dint n) (number_low _)), tt)
      by None = tt

  choices_low : (networks : List (List DiagramElement)) (es : List DiagramElement) → Each Flat (choices_text networks es)
  choices_low networks [] = tt
  choices_low networks (e ∷ es) = each_append Flat (choices_text networks es) (choice_text networks e) (choices_low networks es) (choice_low networks e)

  counted : (n : ℕ) → Flat (Assign counter_name (dint n))
  counted n = assigned 1 (omega arith) counter_name (dint n) (number_low _)

  arms_low : (networks : List (List DiagramElement)) (i : ℕ) (rest : List (List DiagramElement)) → Each (ElementsFit project p []) rest → arms_depth (arms (arms_text networks i rest)) ≤ 142
  unfolding statement_depth
  arms_low networks i [] h = omega arith
  arms_low networks i (network ∷ rest) h =
      max_low (statements_depth (statements (turn_text networks (i + 1) network))) (arms_depth (arms (arms_text networks (i + 1) rest))) 142
      (all_low 142 (turn_text networks (i + 1) network) (each_append Flat (elements_text network) _ (elements_low [] network h.0) (counted (i + 1), choices_low networks network)))
      (arms_low networks (i + 1) rest h.1)

  case_low : (networks : List (List DiagramElement)) → Each (ElementsFit project p []) networks → Shallow 143 (Case (Name counter_name) (arms (arms_text networks 0 networks)))
  unfolding statement_depth
  case_low networks h =
      let bound = max_low (expression_depth 0 (Name counter_name)) (arms_depth (arms (arms_text networks 0 networks))) 142 (weaker 1 142 (Name counter_name) (omega arith) (name_low counter_name) 0) (arms_low networks 0 networks h) in
      omega arith

  while_low : (e : Expression) (s : Statement) → Low 143 e → Shallow 143 s → Shallow 144 (While e (statements (s ∷ [])))
  unfolding statement_depth
  while_low e s h k = let bound = max_low (expression_depth 0 e) (statements_depth (statements (s ∷ []))) 143 (h 0) (all_low 143 (s ∷ []) (k, tt)) in omega arith

  limit_low : (n : ℕ) → Low 143 (Binary Less (Name counter_name) (dint n))
  limit_low n = weaker 3 143 _ (omega arith) (binary_low Less (Name counter_name) (dint n) 1 (name_low counter_name 4) (number_low _ 5))

  pub body_low : (networks : List (List DiagramElement)) → Each (ElementsFit project p []) networks → statements_depth (statements (body_text networks)) ≤ 144
  body_low networks h = by (has_jump networks)
    where
      raised : (s : Statement) → Flat s → Shallow 144 s
      raised s low = omega arith

      by : (b : Bool) → statements_depth (statements (if b then jumping_text networks else straight_text networks)) ≤ 144
      by true = all_low 144 (jumping_text networks) (raised _ (counted 0), (while_low _ _ (limit_low (length networks)) (case_low networks h), tt))
      by false = all_low 144 (straight_text networks) (each_weaker Flat (Shallow 144) (straight_text networks) raised (straight_low networks h))
