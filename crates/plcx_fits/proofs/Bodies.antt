-- The elements of a body in its diagram, and how many networks there are.
use Rattle.std.proofs.Common.{◌≡◌, ℕ, zero, suc, ◌+◌, ◌<◌, ◌≤◌, ◌⊎◌, inl, inr, Bool, true, false, List, [], ◌∷◌, map, length, get_or, drop, refl, sym, ap, ◌∙◌, subst, arith}
use Rattle.std.specs.Prelude.{nat_eq}
use Rattle.std.specs.List.{list_any, range_with_len}
use Rattle.std.specs.Ordering.{nat_cmp}
use Rattle.std.specs.declared.cmp.Ordering.TheVariants.{Less, Equal}
use Rattle.std.proofs.lemmas.Bool.{and_from, not_from_false, or_from, ne_eqb, eqb-true, eq-eqb, cases_eq}
use Rattle.std.proofs.lemmas.List.{length-map}
use Rattle.plcx_types.specs.Limits.{max_elements}
use Rattle.plcx_types.specs.Lists.{Each}
use Rattle.plcx_meaning.specs.Base.{all_differ}
use Rattle.plcx_meaning.specs.Diagram.{DiagramElement}
use Rattle.plcx_meaning.specs.Diagram as diagram
use Rattle.plcx_model.specs.declared.body.BodyElement.{BodyElement}
use Rattle.plcx_model.specs.declared.key.Key.{Key}
use Rattle.plcx_model.specs.declared.plan.BodyPlan.{BodyPlan}
use Rattle.plcx_model.specs.declared.project.Pou.{Pou}
use Rattle.plcx_model.specs.Graph.{Graph, key_at}
use Rattle.plcx_model.specs.Keys.{place_cmp}
use Rattle.plcx_model.specs.Networks.{Listed, IsNetwork, ComesBefore, AreInOrder, AreNetworks}
use Rattle.plcx_model.specs.Numbering.{pins_of, kind_takes_part, LocalIdsDiffer}
use Rattle.plcx_model.specs.Orders.{AreOrders}
use Rattle.plcx_model.specs.Paths.{Reaches, IsPath, IsLink}
use Rattle.plcx_model.specs.Sound.{PouIsSound}
use Rattle.plcx_view.specs.Checked.{IsBodyPlan, graph_of_pou}
use Rattle.plcx_view.specs.Pins.{Pin}
use Rattle.plcx_view.specs.Diagrams.{elements_from, without_networks, with_fed, elements_of, network_of}
use Rattle.plcx_fits.proofs.Pigeons.{Has, Differ, no_longer}

-- ---- ids

ids_from : (pous : List Pou) (p : Pou) (pins : List Pin) (es : List BodyElement) → map (λ (e : DiagramElement). e.id) (elements_from pous p pins es) ≡ map (λ (e : BodyElement). e.local_id) es
ids_from pous p pins [] = refl
ids_from pous p pins (e ∷ es) = ap (λ rest. e.local_id ∷ rest) (ids_from pous p (drop (pins_of e.kind) pins) es)

ids_fed : (q : diagram.Pou) (es : List DiagramElement) → map (λ (e : DiagramElement). e.id) (map (with_fed q) es) ≡ map (λ (e : DiagramElement). e.id) es
ids_fed q [] = refl
ids_fed q (e ∷ es) = ap (λ rest. e.id ∷ rest) (ids_fed q es)

-- the elements of the diagram have the localIds of those of the body, in their order
pub ids_of : (pous : List Pou) (p : Pou) (pins : List Pin) → map (λ (e : DiagramElement). e.id) (elements_of pous p pins) ≡ map (λ (e : BodyElement). e.local_id) p.body.elements
ids_of pous p pins =
    let bare = elements_from pous p pins p.body.elements in
    ids_fed (without_networks pous p bare) bare ∙ ids_from pous p pins p.body.elements

no_equal : (n : ℕ) (es : List BodyElement) → Each (λ (f : BodyElement). n ≡ f.local_id → ⊥) es → list_any (nat_eq n) (map (λ (e : BodyElement). e.local_id) es) ≡ false
no_equal n [] h = refl
no_equal n (e ∷ es) h = or_from (nat_eq n e.local_id) (list_any (nat_eq n) (map (λ (x : BodyElement). x.local_id) es)) (ne_eqb n e.local_id h.0) (no_equal n es h.1)

differ : (es : List BodyElement) → LocalIdsDiffer es → all_differ (map (λ (e : BodyElement). e.local_id) es) ≡ true
differ [] h = refl
differ (e ∷ es) h =
    let others = map (λ (x : BodyElement). x.local_id) es in
    and_from _ (all_differ others) (not_from_false (list_any (nat_eq e.local_id) others) (no_equal e.local_id es h.0)) (differ es h.1)

pub ids_differ : (pous : List Pou) (p : Pou) (pins : List Pin) → LocalIdsDiffer p.body.elements → all_differ (map (λ (e : DiagramElement). e.id) (elements_of pous p pins)) ≡ true
ids_differ pous p pins h = ap all_differ (ids_of pous p pins) ∙ differ p.body.elements h

pub count_of : (pous : List Pou) (p : Pou) (pins : List Pin) → length (elements_of pous p pins) ≡ length p.body.elements
count_of pous p pins =
    sym (length-map (elements_of pous p pins) (λ (e : DiagramElement). e.id)) ∙ ap length (ids_of pous p pins) ∙ length-map p.body.elements (λ (e : BodyElement). e.local_id)

pub elements_few : (pous : List Pou) (p : Pou) (pins : List Pin) → PouIsSound pous p → length (elements_of pous p pins) ≤ max_elements
elements_few pous p pins s = subst (λ n. n ≤ max_elements) (sym (count_of pous p pins)) s.body.elements

-- ---- networks

-- the element that a network is all that links lead to from
one_of : (g : Graph) (network : List ℕ) → IsNetwork g network → (v : ℕ) × Listed network v × (v < length g.parts)
one_of g network is = (is.one, (is.class is.one).1 (record { path = []; leads = refl }), part g.parts is.one is.takes_part)
  where
    part : (bs : List Bool) (v : ℕ) → get_or bs v false ≡ true → v < length bs
    part [] v h = absurd (cc)
    part (b ∷ bs) zero h = omega arith
    part (b ∷ bs) (suc v) h = let low = part bs v h in omega arith

-- nothing stands before itself
nat_self : (n : ℕ) → nat_cmp n n ≡ Equal
nat_self n = grind arith

not_before : (k : Key) → place_cmp k k ≡ Less → ⊥
not_before k h = grind arith

-- two networks that share an element have all of one another's
shared : (g : Graph) (network other : List ℕ) (v w : ℕ) → IsNetwork g network → IsNetwork g other → Listed network v → Listed other v → Listed network w → Listed other w
shared g network other v w one two here there it =
    let to_v = (one.class v).0 here in
    let to_w = (one.class w).0 it in
    let start = (two.class v).0 there in
    (two.class w).1 (joined start (joined (turned to_v) to_w))
  where
    step_back : (u v : ℕ) → IsLink g u v → IsLink g v u
    step_back u v l = record { first = l.second; second = l.first; wired = elim l.wired [ inl a ↦ inr a | inr b ↦ inl b ] }

    joined_along : (u : ℕ) (path : List ℕ) (v w : ℕ) → IsPath (IsLink g) u path v → Reaches (IsLink g) v w → Reaches (IsLink g) u w
    joined_along u [] v w e r = subst (λ x. Reaches (IsLink g) x w) (sym e) r
    joined_along u (x ∷ path) v w h r = let rest = joined_along x path v w h.1 r in record { path = x ∷ rest.path; leads = (h.0, rest.leads) }

    joined : {u v w : ℕ} → Reaches (IsLink g) u v → Reaches (IsLink g) v w → Reaches (IsLink g) u w
    joined {u} {v} {w} a b = joined_along u a.path v w a.leads b

    turned_along : (u : ℕ) (path : List ℕ) (v : ℕ) → IsPath (IsLink g) u path v → Reaches (IsLink g) v u
    turned_along u [] v e = record { path = []; leads = sym e }
    turned_along u (x ∷ path) v h =
        let rest = turned_along x path v h.1 in
        joined_along v rest.path x u rest.leads (record { path = u ∷ []; leads = (step_back u x h.0, refl) })

    turned : {u v : ℕ} → Reaches (IsLink g) u v → Reaches (IsLink g) v u
    turned {u} {v} a = turned_along u a.path v a.leads

abbrev ones : (g : Graph) (networks : List (List ℕ)) → Each (IsNetwork g) networks → List ℕ
ones g [] each = []
ones g (network ∷ networks) each = each.0.one ∷ ones g networks each.1

apart_from : (g : Graph) (network : List ℕ) (is : IsNetwork g network) (others : List (List ℕ)) (each : Each (IsNetwork g) others) → Each (ComesBefore g network) others → Each (λ v. nat_eq is.one v ≡ false) (ones g others each)
unfolding one_of
apart_from g network is [] each before = tt
apart_from g network is (other ∷ others) each before = (
  ne_eqb is.one each.0.one (λ same.
      let here = (one_of g network is).1 in
      let there = subst (Listed other) (sym same) (one_of g other each.0).1 in
      let first = before.0 in
      not_before (key_at g first.least) (first.before first.least (shared g network other is.one first.least is each.0 here there first.there))),
  apart_from g network is others each.1 before.1,
)

ones_differ : (g : Graph) (networks : List (List ℕ)) (each : Each (IsNetwork g) networks) → AreInOrder g networks → Differ nat_eq eqb-true (λ n. eq-eqb n n refl) (ones g networks each)
ones_differ g [] each order = tt
ones_differ g (network ∷ networks) each order = (apart_from g network each.0 networks each.1 order.0, ones_differ g networks each.1 order.1)

equal_or_not : (x y : ℕ) → (y ≡ x) ⊎ (y ≡ x → ⊥)
equal_or_not x y = cases_eq y x

in_range : (a n v : ℕ) → a ≤ v → v < a + n → Has (range_with_len a n) v
in_range a zero v low high = absurd (omega arith)
in_range a (suc n) v low high = by (equal_or_not a v) (in_range (a + 1) n v)
  where
    by : (v ≡ a) ⊎ (v ≡ a → ⊥) → (a + 1 ≤ v → v < a + 1 + n → Has (range_with_len (a + 1) n) v) → Has (range_with_len a (suc n)) v
    by (inl e) later = inl e
    by (inr apart) later = inr (later (omega (arith, apart)) (omega arith))

ones_low : (g : Graph) (networks : List (List ℕ)) (each : Each (IsNetwork g) networks) → Each (Has (range_with_len 0 (length g.parts))) (ones g networks each)
unfolding one_of
ones_low g [] each = tt
ones_low g (network ∷ networks) each = (in_range 0 (length g.parts) each.0.one (omega arith) (let low = (one_of g network each.0).2 in omega arith), ones_low g networks each.1)

ones_count : (g : Graph) (networks : List (List ℕ)) (each : Each (IsNetwork g) networks) → length (ones g networks each) ≡ length networks
ones_count g [] each = refl
ones_count g (network ∷ networks) each = ap suc (ones_count g networks each.1)

range_length : (a n : ℕ) → length (range_with_len a n) ≡ n
range_length a zero = refl
range_length a (suc n) = ap suc (range_length (a + 1) n)

networks_at_most : (g : Graph) (networks : List (List ℕ)) → AreNetworks g networks → length networks ≤ length g.parts
networks_at_most g networks are =
    let most = no_longer nat_eq eqb-true (λ n. eq-eqb n n refl) (ones g networks are.each) (range_with_len 0 (length g.parts)) (ones_differ g networks are.each are.in_order) (ones_low g networks are.each) in
    let left = ones_count g networks are.each in
    let right = range_length 0 (length g.parts) in
    omega arith

as_many : (g : Graph) (networks orders : List (List ℕ)) → AreOrders g networks orders → length orders ≡ length networks
as_many g [] [] h = refl
as_many g [] (xs ∷ orders) h = absurd h
as_many g (network ∷ networks) [] h = absurd h
as_many g (network ∷ networks) (xs ∷ orders) h = ap suc (as_many g networks orders h.1)

-- a body has no more networks than elements
pub networks_few : (pous : List Pou) (p : Pou) (es : List DiagramElement) (plan : BodyPlan) → PouIsSound pous p → IsBodyPlan (graph_of_pou p) plan → length (map (network_of es) plan.networks) ≤ max_elements
networks_few pous p es plan s is =
    let count = length-map plan.networks (network_of es) in
    let orders = as_many (graph_of_pou p) is.networks plan.networks is.orders in
    let most = networks_at_most (graph_of_pou p) is.networks is.found in
    let parts = length-map p.body.elements (λ (e : BodyElement). kind_takes_part e.kind) in
    let few = s.body.elements in
    omega arith
