-- The statements of an element are ready, kind by kind.
use Rattle.std.proofs.Common.{◌≡◌, ℕ, pos, Bool, true, false, List, [], ◌∷◌, ◌++◌, Option, Some, None, map, refl, sym, ap, ◌∙◌, subst, if◌then◌else◌, codes}
use Rattle.std.specs.Prelude.{is_some}
use Rattle.std.specs.List.{Contains}
use Rattle.plcx_types.specs.declared.ty.Ty.{Ty}
use Rattle.plcx_types.specs.declared.ty.Ty.TheVariants as ty
use Rattle.plcx_types.specs.Name.{in_lower_case}
use Rattle.plcx_types.specs.Lists.{Each}
use Rattle.plcx_meaning.specs.Base.{Memory, AtEdge, AtOutput, are_distinct, top}
use Rattle.plcx_meaning.specs.Tree.{Expression, Name, Member, Not, Argument, Statement, Assign, If, statements}
use Rattle.plcx_meaning.specs.Tree as tree
use Rattle.plcx_meaning.specs.Layout.{Variable, variables_of}
use Rattle.plcx_meaning.specs.Functions.{out_type}
use Rattle.plcx_meaning.specs.Diagram.{Link, Operand, Storing, Stored, Inverted, Set, Reset, Contacting, Open, Closed, RisingContact, FallingContact, Coiling, By, RisingCoil, FallingCoil, Enable, has_eno, eno_negated, InputPin, InOutPin, OutputPin, ElementKind, Still, In, Out, Contact, Coil, Pass, Label, Jump, Return, Function, Call, Port, port, eno_ports, output_ports, ports, has_edge, DiagramElement, Pou, Project}
use Rattle.plcx_meaning.specs.Execute.{Temporary, Kept, referent_of, formal}
use Rattle.plcx_meaning.specs.Templates.{number, wire_name, memory_name, wire, memory, link_text, operand_text, contact_text, contact_edge, coil_text, function_text, eno_text, enabled, turned_if, out_default, input_text, in_out_text, output_text, kind_text, feed_text, element_text, elements_text}
use Rattle.plcx_meaning.specs.Typed.{part_in}
use Rattle.plcx_meaning.specs.Ready.{ValueIsReady}
use Rattle.plcx_meaning.specs.Fits.{StoringFits, LinkFits, EnableFits, InputFits, InOutFits, CallFits, KindFits, fixed_by, ElementsFit, ProjectFits}
use Rattle.plcx_meaning.proofs.Lists.{each_at, each_append}
use Rattle.plcx_meaning.proofs.Statics.{here}
use Rattle.plcx_meaning.proofs.Asked.{LinkAsked, InputAsked, InOutAsked, OutputAsked, CallAsked, KindAsked, OwnAsked, ElementsAsked}
use Rattle.plcx_meaning.proofs.Enabling.{eno, negated_listed, connected_eno, each_split, of_eno}
use Rattle.plcx_meaning.proofs.ReadyFunctions.{and_has, not_has, function_has}
use Rattle.plcx_meaning.proofs.ReadyPlaces.{scope, leaf_type, output_type, binding_ready, operand_has}
use Rattle.plcx_meaning.proofs.ReadyStatements.{zero_in_range, Typed, Target, Ready, truth_has, not_if_has, wire_target, wire_has, memory_target, memory_has, at, link_has, truth_link, links_have, written, store_ready}

abbrev has_edge_of : Contacting → Bool
has_edge_of Open = false
has_edge_of Closed = false
has_edge_of RisingContact = true
has_edge_of FallingContact = true

-- the names of a call's arguments
formal_names : (taken : List InputPin) (bound : List InOutPin)
    → map (λ (a : Argument). in_lower_case a.formal) (map input_text taken ++ map in_out_text bound) ≡ map (λ (i : InputPin). in_lower_case i.name) taken ++ map (λ (i : InOutPin). in_lower_case i.name) bound
formal_names [] [] = refl
formal_names [] (i ∷ is) = ap (λ ns. in_lower_case i.name ∷ ns) (formal_names [] is)
formal_names (i ∷ is) bound = ap (λ ns. in_lower_case i.name ∷ ns) (formal_names is bound)

module _ (project : Project) (p : Pou) (fits : ProjectFits project) (there : Contains project p) where
  abbrev ReadyOf : Statement → Type 0
  ReadyOf = Ready project p fits there

  abbrev Wired : ℕ → Port → Type 0
  Wired id o = referent_of (here project p top) (wire_name id o.pin) ≡ Temporary o.ty

  contact_has : (how : Contacting) (l v m : Expression) → Typed project p fits there l ty.Bool → Typed project p fits there v ty.Bool → (has_edge_of how ≡ true → Typed project p fits there m ty.Bool)
      → Typed project p fits there (contact_text how l v m) ty.Bool
  contact_has Open l v m hl hv hm = and_has (scope project p fits there) l v hl hv
  contact_has Closed l v m hl hv hm = and_has (scope project p fits there) l (Not v) hl (not_has (scope project p fits there) v hv)
  contact_has RisingContact l v m hl hv hm =
      let c = scope project p fits there in and_has c _ (Not m) (and_has c l v hl hv) (not_has c m (hm refl))
  contact_has FallingContact l v m hl hv hm =
      let c = scope project p fits there in and_has c _ m (and_has c l (Not v) hl (not_has c v hv)) (hm refl)

  contact_edge_ready : (how : Contacting) (k : Memory) (v : Expression) → Typed project p fits there v ty.Bool → (has_edge_of how ≡ true → Target project p fits there (memory_name k) ty.Bool) → Each ReadyOf (contact_edge how k v)
  contact_edge_ready Open k v h t = tt
  contact_edge_ready Closed k v h t = tt
  contact_edge_ready RisingContact k v h t = ((ty.Bool, t refl, h), tt)
  contact_edge_ready FallingContact k v h t = ((ty.Bool, t refl, h), tt)

  contact_edges : (how : Contacting) (operand : Operand) (link : Link) → has_edge (Contact how operand link) ≡ has_edge_of how
  contact_edges Open operand link = refl
  contact_edges Closed operand link = refl
  contact_edges RisingContact operand link = refl
  contact_edges FallingContact operand link = refl

  -- EN and ENO
  module _ (done : List (ℕ × Port)) (id : ℕ) (enable : Enable) (wires : has_eno enable ≡ true → Wired id (port eno ty.Bool)) where
    eno_ready : EnableFits (at project p fits there done) enable → ((link : Link) → enable.en ≡ Some link → LinkAsked (here project p top) done link × (link.ty ≡ ty.Bool)) → Each ReadyOf (eno_text id enable)
    eno_ready fit asked = by enable.en enable.eno wires fit asked
      where
        by : (en : Option Link) (listed : Option Bool) → (has_eno (record { en = en; eno = listed }) ≡ true → Wired id (port eno ty.Bool))
            → ((link : Link) → en ≡ Some link → LinkFits (at project p fits there done) link × (link.ty ≡ ty.Bool)) → ((link : Link) → en ≡ Some link → LinkAsked (here project p top) done link × (link.ty ≡ ty.Bool))
            → Each ReadyOf (eno_text id (record { en = en; eno = listed }))
        by (Some link) listed w f a = ((ty.Bool, wire_target project p fits there id eno ty.Bool (w refl), truth_link project p fits there done link (f link refl).0 (a link refl).0 (f link refl).1), tt)
        by None (Some negated) w f a = ((ty.Bool, wire_target project p fits there id eno ty.Bool (w refl), truth_has project p fits there true), tt)
        by None None w f a = tt

    enabled_ready : (s : Statement) → ReadyOf s → ReadyOf (enabled id enable s)
    enabled_ready s h = by enable.en refl
      where
        by : (o : Option Link) → enable.en ≡ o → ReadyOf (if is_some o then If (wire id eno) (statements (s ∷ [])) else s)
        by (Some link) e = (wire_has project p fits there id eno ty.Bool (wires (connected_eno enable link e)), (h, tt))
        by None e = h

    turned_ready : (b : Bool) (pin : List ℕ) → (b ≡ true → Wired id (port pin ty.Bool)) → Each ReadyOf (turned_if b id pin)
    turned_ready true pin w = ((ty.Bool, wire_target project p fits there id pin ty.Bool (w refl), not_has (scope project p fits there) (wire id pin) (wire_has project p fits there id pin ty.Bool (w refl))), tt)
    turned_ready false pin w = tt

    eno_turned : Each ReadyOf (turned_if (eno_negated enable) id eno)
    eno_turned = turned_ready (eno_negated enable) eno (λ h. wires (negated_listed enable h))

    default_ready : (t : Ty) → Wired id (port (codes "OUT") t) → Each ReadyOf (out_default id enable t)
    default_ready t w = by (is_some enable.en)
      where
        by : (b : Bool) → Each ReadyOf (if b then Assign (wire_name id (codes "OUT")) (number t (pos 0)) ∷ [] else [])
        by true = ((t, wire_target project p fits there id (codes "OUT") t w, record { typed = refl; range = zero_in_range t }), tt)
        by false = tt

  -- the call of a block
  module _ (done : List (ℕ × Port)) (instance : List ℕ) where
    inputs_ready : (within : List Variable) (ins : List InputPin) → Each (InputFits (at project p fits there done) within) ins → Each (InputAsked (here project p top) done instance) ins
        → Each (λ (a : Argument). ValueIsReady (scope project p fits there) a.value (formal (scope project p fits there).world (part_in (scope project p fits there) instance a.formal))) (map input_text ins)
    inputs_ready within [] h a = tt
    inputs_ready within (i ∷ is) h a =
        (subst (ValueIsReady (scope project p fits there) (link_text i.link)) (sym a.0.formal) (link_has project p fits there done i.link h.0.1 a.0.link), inputs_ready within is h.1 a.1)

    in_outs_ready : (within : List Variable) (ins : List InOutPin) → Each (InOutFits (at project p fits there done) within) ins → Each (InOutAsked (here project p top) (variables_of p.lists) instance) ins
        → Each (λ (a : Argument). ValueIsReady (scope project p fits there) a.value (formal (scope project p fits there).world (part_in (scope project p fits there) instance a.formal))) (map in_out_text ins)
    in_outs_ready within [] h a = tt
    in_outs_ready within (i ∷ is) h a = (
      subst (ValueIsReady (scope project p fits there) (Name i.variable)) (sym a.0.formal)
          (binding_ready project p fits there i.variable a.0.ty h.0.0 h.0.2 h.0.3 (leaf_type _ a.0.ty a.0.variable.has)),
      in_outs_ready within is h.1 a.1,
    )

    call_ready : (ins : List InputPin) (bound : List InOutPin) (outs : List OutputPin) → CallFits (at project p fits there done) instance ins bound outs → CallAsked (here project p top) (variables_of p.lists) done instance ins bound outs
        → ReadyOf (tree.Call instance (map input_text ins ++ map in_out_text bound))
    call_ready ins bound outs h a = record {
      type = a.variable.ty;
      instance = a.place;
      distinct = ap are_distinct (formal_names ins bound) ∙ h.formals;
      values = each_append _ (map input_text ins) (map in_out_text bound) (inputs_ready h.within ins h.inputs a.inputs) (in_outs_ready h.within bound h.in_outs a.in_outs);
      bound = a.all;
    }

    outputs_ready : (id : ℕ) (outs : List OutputPin) → Each (OutputAsked (here project p top) instance) outs → Each (Wired id) (output_ports outs) → Each ReadyOf (map (output_text id instance) outs)
    outputs_ready id [] a w = tt
    outputs_ready id (o ∷ os) a w = (
      (
        o.ty,
        wire_target project p fits there id o.name o.ty w.0,
        not_if_has project p fits there o.negated (Member instance o.name) o.ty a.0.negated
            (record { typed = output_type (scope project p fits there).world (part_in (scope project p fits there) instance o.name) [] (λ q. pos 0) o.ty _ (a.0.reads [] (λ q. pos 0)); range = tt }),
      ),
      outputs_ready id os a.1 w.1,
    )

  module _ (done : List (ℕ × Port)) where
    coil_ready : (how : Coiling) (x : List ℕ) (id : ℕ) (link : Link) → Target project p fits there x ty.Bool → Typed project p fits there (wire id []) ty.Bool → (has_edge (Coil how x link) ≡ true → referent_of (here project p top) (memory_name (AtEdge id)) ≡ Kept ty.Bool)
        → Each ReadyOf (coil_text how x (AtEdge id) (wire id []))
    coil_ready (By how) x id link target w edge = (store_ready project p fits there done how x (wire id []) ty.Bool (truths how) target w, tt)
      where
        truths : (s : Storing) → StoringFits s ty.Bool
        truths Stored = tt
        truths Inverted = refl
        truths Set = refl
        truths Reset = refl
    coil_ready RisingCoil x id link target w edge =
        let m = memory_has project p fits there (AtEdge id) ty.Bool (edge refl) in
        let c = scope project p fits there in
        ((ty.Bool, target, and_has c (wire id []) (Not (memory (AtEdge id))) w (not_has c (memory (AtEdge id)) m)), ((ty.Bool, memory_target project p fits there (AtEdge id) ty.Bool (edge refl), w), tt))
    coil_ready FallingCoil x id link target w edge =
        let m = memory_has project p fits there (AtEdge id) ty.Bool (edge refl) in
        let c = scope project p fits there in
        ((ty.Bool, target, and_has c (Not (wire id [])) (memory (AtEdge id)) (not_has c (wire id []) w) m), ((ty.Bool, memory_target project p fits there (AtEdge id) ty.Bool (edge refl), w), tt))

    kind_ready : (k : ElementKind) (id : ℕ) → Each (Wired id) (ports k) → (has_edge k ≡ true → referent_of (here project p top) (memory_name (AtEdge id)) ≡ Kept ty.Bool)
        → KindFits (at project p fits there done) k → KindAsked (here project p top) (variables_of p.lists) done k → Each ReadyOf (kind_text k id)
    kind_ready Still id w edge h a = tt
    kind_ready (In t negated operand) id w edge h a =
        ((t, wire_target project p fits there id [] t w.0, not_if_has project p fits there negated (operand_text operand) t h.1 (operand_has project p fits there (variables_of p.lists) operand t a.0)), tt)
    kind_ready (Out how x link) id w edge h a =
        (store_ready project p fits there done how x (link_text link) link.ty h.1 (written project p fits there done x link.ty h.0 h.3 a.0) (link_has project p fits there done link h.2 a.2), tt)
    kind_ready (Contact how operand link) id w edge h a =
        let v = operand_has project p fits there (variables_of p.lists) operand ty.Bool a.0 in
        let l = truth_link project p fits there done link h.1.0 a.1.0 h.1.1 in
        let m = λ (e : has_edge_of how ≡ true). edge (contact_edges how operand link ∙ e) in (
          (ty.Bool, wire_target project p fits there id [] ty.Bool w.0, contact_has how (link_text link) (operand_text operand) (memory (AtEdge id)) l v (λ e. memory_has project p fits there (AtEdge id) ty.Bool (m e))),
          contact_edge_ready how (AtEdge id) (operand_text operand) v (λ e. memory_target project p fits there (AtEdge id) ty.Bool (m e)),
        )
    kind_ready (Coil how x link) id w edge h a = (
      (ty.Bool, wire_target project p fits there id [] ty.Bool w.0, truth_link project p fits there done link h.1.0 a.1.0 h.1.1),
      coil_ready how x id link (written project p fits there done x ty.Bool h.0 h.2 a.0) (wire_has project p fits there id [] ty.Bool w.0) edge,
    )
    kind_ready (Pass link) id w edge h a = ((link.ty, wire_target project p fits there id [] link.ty w.0, link_has project p fits there done link h a), tt)
    kind_ready (Label name) id w edge h a = tt
    kind_ready (Jump label link) id w edge h a = ((ty.Bool, wire_target project p fits there id [] ty.Bool w.0, truth_link project p fits there done link h.0 a.0 h.1), tt)
    kind_ready (Return link) id w edge h a = ((ty.Bool, wire_target project p fits there id [] ty.Bool w.0, truth_link project p fits there done link h.0 a.0 h.1), tt)
    kind_ready (Function f t enable links negated) id w edge h a =
        let all = each_split (Wired id) (eno_ports enable) (port (codes "OUT") (out_type f t) ∷ []) w in
        let en = of_eno (Wired id) (has_eno enable) all.0 in
        let out : Wired id (port (codes "OUT") (out_type f t)) = all.1.0 in
        let value = function_has (scope project p fits there) t (map link_text links) (map (λ (l : Link). l.ty) links) (links_have project p fits there done links h.0.inputs a.0.inputs) f h.0.function h.0.group h.0.applies in
        each_append ReadyOf (eno_text id enable) _ (eno_ready done id enable en h.1 a.1)
        (each_append ReadyOf (out_default id enable (out_type f t)) _ (default_ready done id enable en (out_type f t) out) (
          enabled_ready done id enable en (Assign (wire_name id (codes "OUT")) (function_text f (map link_text links))) (out_type f t, wire_target project p fits there id (codes "OUT") (out_type f t) out, value),
          each_append ReadyOf (turned_if (eno_negated enable) id eno) _ (eno_turned done id enable en) (turned_ready done id enable en negated (codes "OUT") (λ e. subst (λ u. Wired id (port (codes "OUT") u)) (h.2 e) out)),
        ))
    kind_ready (Call instance enable ins bound outs) id w edge h a =
        let all = each_split (Wired id) (eno_ports enable) (output_ports outs) w in
        let en = of_eno (Wired id) (has_eno enable) all.0 in
        each_append ReadyOf (eno_text id enable) _ (eno_ready done id enable en h.1 a.1) (
          enabled_ready done id enable en (tree.Call instance (map input_text ins ++ map in_out_text bound)) (call_ready done instance ins bound outs h.0 a.0),
          each_append ReadyOf (map (output_text id instance) outs) _ (outputs_ready done instance id outs a.0.outputs all.1) (eno_turned done id enable en),
        )

    feeds_ready : (id : ℕ) (k : ElementKind) (fed : List Port) → Each (Wired id) (ports k) → Each (λ (o : Port). (referent_of (here project p top) (memory_name (AtOutput id o.pin)) ≡ Kept o.ty) × Contains (ports k) o) fed → Each ReadyOf (map (feed_text id) fed)
    feeds_ready id k [] w h = tt
    feeds_ready id k (o ∷ fed) w h =
        ((o.ty, memory_target project p fits there (AtOutput id o.pin) o.ty h.0.0, wire_has project p fits there id o.pin o.ty (each_at (Wired id) (ports k) o w h.0.1)), feeds_ready id k fed w h.1)

    element_ready : (e : DiagramElement) → OwnAsked (here project p top) e → KindFits (at project p fits there done) e.kind → KindAsked (here project p top) (variables_of p.lists) done e.kind → Each ReadyOf (element_text e)
    element_ready e own h a = each_append ReadyOf (kind_text e.kind e.id) (map (feed_text e.id) e.fed) (kind_ready e.kind e.id own.wires own.edge h a) (feeds_ready e.id e.kind e.fed own.wires own.fed)

  pub elements_ready : (done : List (ℕ × Port)) (es : List DiagramElement) → ElementsFit project p done es → ElementsAsked (here project p top) (variables_of p.lists) done es → Each ReadyOf (elements_text es)
  elements_ready done [] h a = tt
  elements_ready done (e ∷ es) h a = each_append ReadyOf (element_text e) (elements_text es) (element_ready done e a.0 h.2 a.2) (elements_ready (fixed_by e ++ done) es h.3 a.3)
