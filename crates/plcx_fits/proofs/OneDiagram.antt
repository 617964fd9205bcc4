-- A project has one diagram: the rules leave no choice of its links, its types and its plan.
use Rattle.std.proofs.Common.{◌≡◌, ◌↔◌, ℕ, zero, suc, ◌+◌, ◌<◌, Bool, true, false, inl, inr, List, [], ◌∷◌, Some, length, get_or, slice_get, refl, sym, ap, ◌∙◌, subst, arith}
use Rattle.std.proofs.lemmas.Bool.{cases_Bool}
use Rattle.std.proofs.lemmas.List.{get_or_default, same_lists}
use Rattle.plcx_types.specs.declared.ty.Ty.{Ty}
use Rattle.plcx_types.specs.declared.ty.Ty.TheVariants as ty
use Rattle.plcx_types.specs.Lists.{Each}
use Rattle.plcx_types.specs.TypeName.{same_ty}
use Rattle.plcx_types.proofs.TypeTable.{same_is, same_refl}
use Rattle.plcx_model.specs.declared.plan.BodyPlan.{BodyPlan}
use Rattle.plcx_model.specs.declared.plan.Links.{Links}
use Rattle.plcx_model.specs.declared.plan.Plan.{Plan}
use Rattle.plcx_model.specs.declared.plan.Types.{Types}
use Rattle.plcx_model.specs.declared.project.Pou.{Pou}
use Rattle.plcx_model.specs.declared.project.Project.{Project}
use Rattle.plcx_model.specs.declared.source.Source.{Source}
use Rattle.plcx_model.specs.Feedback.{IsFeedback, AreMarks}
use Rattle.plcx_model.specs.Graph.{Graph, IsGraph, from_at, to_at}
use Rattle.plcx_model.specs.Networks.{IsNetwork, HaveOneListOfNetworks}
use Rattle.plcx_model.specs.Orders.{IsOrder, AreOrders, HaveOneOrder}
use Rattle.plcx_model.proofs.BodyGraphs.{is_graph}
use Rattle.plcx_meaning.specs.Diagram as diagram
use Rattle.plcx_rules.specs.declared.form.WireForm.{WireForm}
use Rattle.plcx_rules.specs.Forms.{sheet_at, wires_from}
use Rattle.plcx_rules.specs.Types.{Sheet, AtPin, HasType}
use Rattle.plcx_rules.specs.Sources.{sources_in}
use Rattle.plcx_rules.specs.Typed.{AreTypes, HaveTypes}
use Rattle.plcx_view.specs.Checked.{IsBodyPlan, graph_of_pou, IsChecked}
use Rattle.plcx_view.specs.Pins.{pins_from}
use Rattle.plcx_view.specs.Diagrams.{elements_of, with_networks, no_plan, pous_from}
use Rattle.plcx_fits.specs.Laws.{OneDiagram}
use Rattle.plcx_fits.proofs.Joined.{graph_at, plan_at}

-- ---- types

-- two types are one, unless they differ
one_type : (t u : Ty) → ((t ≡ u → ⊥) → t ≡ u) → t ≡ u
one_type t u h = elim (cases_Bool (same_ty t u)) [
  | inl same ↦ same_is t u same
  | inr other ↦ h (λ e. let f : false ≡ true = sym other ∙ subst (λ v. same_ty t v ≡ true) e (same_refl t) in cc)
]

-- the input pins of a body have one list of types
one_types : (s : Sheet) (wires : List WireForm) (xs ys given other : List Ty) → AreTypes s wires xs given → AreTypes s wires ys other → xs ≡ ys
one_types s wires xs ys given other a b = same_lists xs ys (a.pin_count ∙ sym b.pin_count) (λ i d low.
    let pin : i < length s.pins = omega (arith, low, a.pin_count) in
    let there : i < length ys = omega (arith, pin, b.pin_count) in
    get_or_default xs i d ty.Bool low
    ∙ one_type (get_or xs i ty.Bool) (get_or ys i ty.Bool) (λ differ.
    let none : (t : Ty) → HasType s (AtPin i) t → ⊥ = λ t has. differ (sym (a.each_pin i t pin has) ∙ b.each_pin i t pin has) in
    a.other_pin i pin none ∙ sym (b.other_pin i pin none))
    ∙ sym (get_or_default ys i d ty.Bool there))

-- ---- plans

same_mark : (P : Type 0) (b c : Bool) → (b ≡ true) ↔ P → (c ≡ true) ↔ P → b ≡ c
same_mark P true true h k = refl
same_mark P true false h k = sym (k.1 (h.0 refl))
same_mark P false true h k = h.1 (k.0 refl)
same_mark P false false h k = refl

one_marks : (g : Graph) (xs ys : List Bool) → AreMarks g xs → AreMarks g ys → xs ≡ ys
one_marks g xs ys a b = same_lists xs ys (a.count ∙ sym b.count) (λ i d low.
    let wire : i < length g.wires = omega (arith, low, a.count) in
    let there : i < length ys = omega (arith, wire, b.count) in
    get_or_default xs i d false low
    ∙ same_mark (IsFeedback g (from_at g.wires i) (to_at g.wires i)) (get_or xs i false) (get_or ys i false) (a.each i wire) (b.each i wire)
    ∙ sym (get_or_default ys i d false there))

module _ (one : HaveOneOrder) (list : HaveOneListOfNetworks) where
  one_order : (g : Graph) → IsGraph g → (network xs ys : List ℕ) → IsNetwork g network → IsOrder g network xs → IsOrder g network ys → xs ≡ ys
  one_order g is network xs ys n a b = let found = one g network is n in found.2 xs a ∙ sym (found.2 ys b)

  one_orders : (g : Graph) → IsGraph g → (networks xs ys : List (List ℕ)) → Each (IsNetwork g) networks → AreOrders g networks xs → AreOrders g networks ys → xs ≡ ys
  one_orders g is [] [] [] each a b = refl
  one_orders g is [] [] (y ∷ ys) each a b = absurd b
  one_orders g is [] (x ∷ xs) ys each a b = absurd a
  one_orders g is (n ∷ ns) [] ys each a b = absurd a
  one_orders g is (n ∷ ns) (x ∷ xs) [] each a b = absurd b
  one_orders g is (n ∷ ns) (x ∷ xs) (y ∷ ys) each a b =
      ap (λ z. z ∷ xs) (one_order g is n x y each.0 a.0 b.0)
      ∙ ap (λ zs. y ∷ zs) (one_orders g is ns xs ys each.1 a.1 b.1)

  one_networks : (g : Graph) → IsGraph g → (x y : BodyPlan) → IsBodyPlan g x → IsBodyPlan g y → x.networks ≡ y.networks
  one_networks g is x y a b =
      let found = list g is in
      let same : b.networks ≡ a.networks = found.2 b.networks b.found ∙ sym (found.2 a.networks a.found) in
      one_orders g is a.networks x.networks y.networks a.found.each a.orders (subst (λ ns. AreOrders g ns y.networks) same b.orders)

  -- ---- projects

  module _ (project : Project) (links links' : Links) (types types' : Types) (plan plan' : Plan) (c : IsChecked project links types plan) (c' : IsChecked project links' types' plan') where
    abbrev pous : List Pou
    pous = project.pous

    linked : links.bodies ≡ links'.bodies
    linked = c.linked ∙ sym c'.linked

    types_at : (i : ℕ) (p : Pou) → slice_get pous i ≡ Some p → get_or types.inputs i [] ≡ get_or types'.inputs i []
    types_at i p here =
        let typed : HaveTypes pous links.bodies types' = subst (λ bodies. HaveTypes pous bodies types') (sym linked) c'.typed in
        one_types (sheet_at pous links.bodies i p) (wires_from pous p 0 p.body.elements) (get_or types.inputs i []) (get_or types'.inputs i []) (get_or types.wires i []) (get_or types'.wires i [])
        (c.typed.each i p here) (typed.each i p here)

    graph : (i : ℕ) (p : Pou) → slice_get pous i ≡ Some p → IsGraph (graph_of_pou p)
    graph i p here = is_graph p.body.elements (sources_in p.body.elements) (graph_at project links types plan c i p here)

    abbrev plan_of : Plan → ℕ → BodyPlan
    plan_of x i = get_or x.bodies i no_plan

    networks_at : (i : ℕ) (p : Pou) → slice_get pous i ≡ Some p → (plan_of plan i).networks ≡ (plan_of plan' i).networks
    networks_at i p here = one_networks (graph_of_pou p) (graph i p here) (plan_of plan i) (plan_of plan' i) (plan_at project links types plan c i p here) (plan_at project links' types' plan' c' i p here)

    marks_at : (i : ℕ) (p : Pou) → slice_get pous i ≡ Some p → (plan_of plan i).marks ≡ (plan_of plan' i).marks
    marks_at i p here = one_marks (graph_of_pou p) (plan_of plan i).marks (plan_of plan' i).marks (plan_at project links types plan c i p here).marks (plan_at project links' types' plan' c' i p here).marks

    -- a POU by what was found out about its body
    abbrev by_parts : Pou → List (List Source) → List Ty → List Bool → List (List ℕ) → diagram.Pou
    by_parts p sources inputs marks networks = with_networks pous p (elements_of pous p (pins_from inputs sources marks)) networks

    pou_at : (i : ℕ) (p : Pou) → slice_get pous i ≡ Some p → by_parts p (get_or links.bodies i []) (get_or types.inputs i []) (plan_of plan i).marks (plan_of plan i).networks
        ≡ by_parts p (get_or links'.bodies i []) (get_or types'.inputs i []) (plan_of plan' i).marks (plan_of plan' i).networks
    pou_at i p here =
        ap (λ (bodies : List (List (List Source))). by_parts p (get_or bodies i []) (get_or types.inputs i []) (plan_of plan i).marks (plan_of plan i).networks) linked
        ∙ ap (λ inputs. by_parts p (get_or links'.bodies i []) inputs (plan_of plan i).marks (plan_of plan i).networks) (types_at i p here)
        ∙ ap (λ marks. by_parts p (get_or links'.bodies i []) (get_or types'.inputs i []) marks (plan_of plan i).networks) (marks_at i p here)
        ∙ ap (by_parts p (get_or links'.bodies i []) (get_or types'.inputs i []) (plan_of plan' i).marks) (networks_at i p here)

    all_from : (k : ℕ) (ps : List Pou) → ((i : ℕ) → slice_get ps i ≡ slice_get pous (k + i)) → pous_from project links types plan k ps ≡ pous_from project links' types' plan' k ps
    all_from k [] at = refl
    all_from k (p ∷ ps) at =
        let none : k + 0 ≡ k = omega arith in
        let here : slice_get pous k ≡ Some p = sym (at zero ∙ ap (slice_get pous) none) in
        ap (λ q. q ∷ pous_from project links types plan (k + 1) ps) (pou_at k p here)
        ∙ ap (λ qs. by_parts p (get_or links'.bodies k []) (get_or types'.inputs k []) (plan_of plan' k).marks (plan_of plan' k).networks ∷ qs)
        (all_from (k + 1) ps (λ i. let next : k + suc i ≡ k + 1 + i = omega arith in at (suc i) ∙ ap (slice_get pous) next))

  pub one_diagram : OneDiagram
  one_diagram project links links' types types' plan plan' c c' =
      all_from project links links' types types' plan plan' c c' 0 project.pous (λ i. let same : i ≡ 0 + i = omega arith in ap (slice_get project.pous) same)
