-- The plans of the bodies, one after the other.
use Rattle.std.proofs.Common.{◌≡◌, ℕ, zero, suc, ◌+◌, ◌<◌, ◌≤◌, List, [], ◌∷◌, ◌++◌, map, length, take, get_or, refl, sym, ap, ◌∙◌, subst, arith}
use Rattle.std.specs.List.{AllZip}
use Rattle.std.proofs.lemmas.List.{take_all, take_more, get_or_read, length-map}
use Rattle.plcx_types.specs.Lists.{Each}
use Rattle.plcx_model.specs.declared.plan.BodyPlan.{BodyPlan}
use Rattle.plcx_model.specs.declared.project.Pou.{Pou}
use Rattle.plcx_model.specs.declared.source.Source.{Source}
use Rattle.plcx_model.specs.Numbering.{body_graph, HasGraph}
use Rattle.plcx_rules.specs.Laws.{HaveGraphs}
use Rattle.plcx_rules.specs.Sources.{sources_in, links_of}
use Rattle.plcx_view.specs.Checked.{IsBodyPlan, graph_of_pou, ArePlans}

module _ (pous : List Pou) (bodies : List (List (List Source))) (linked : bodies ≡ links_of pous) where
  pub as_many : length bodies ≡ length pous
  as_many = ap length linked ∙ length-map pous (λ (p : Pou). sources_in p.body.elements)

  mapped : (ps : List Pou) (i : ℕ) (p : Pou) → i < length ps → get_or (map (λ (r : Pou). sources_in r.body.elements) ps) i [] ≡ sources_in (get_or ps i p).body.elements
  mapped [] i p low = absurd (omega arith)
  mapped (q ∷ ps) zero p low = refl
  mapped (q ∷ ps) (suc i) p low = mapped ps i p (omega arith)

  -- the sources that were read at a place are those of the POU there
  pub sources_here : (i : ℕ) (p : Pou) (sources : List (List Source)) → i < length pous → p ≡ get_or pous i p → sources ≡ get_or bodies i sources → sources ≡ sources_in p.body.elements
  sources_here i p sources low there read =
      let inside : i < length bodies = (let e = as_many in omega arith) in
      get_or_read bodies i sources inside read [] ∙ ap (λ (all : List (List (List Source))). get_or all i []) linked ∙ mapped pous i p low ∙ ap (λ (r : Pou). sources_in r.body.elements) (sym there)

  graph_in : (ps : List Pou) (i : ℕ) (p : Pou) → HaveGraphs ps → i < length ps → HasGraph (get_or ps i p).body.elements (sources_in (get_or ps i p).body.elements)
  graph_in [] i p all low = absurd (omega arith)
  graph_in (q ∷ ps) zero p all low = all.0
  graph_in (q ∷ ps) (suc i) p all low = graph_in ps i p all.1 (omega arith)

  pub graph_here : (i : ℕ) (p : Pou) (sources : List (List Source)) → HaveGraphs pous → i < length pous → p ≡ get_or pous i p → sources ≡ get_or bodies i sources → HasGraph p.body.elements sources
  graph_here i p sources graphs low there read =
      subst (HasGraph p.body.elements) (sym (sources_here i p sources low there read)) (subst (λ (r : Pou). HasGraph r.body.elements (sources_in r.body.elements)) (sym there) (graph_in pous i p graphs low))

  joined : (ps : List Pou) (plans : List BodyPlan) (p : Pou) (plan : BodyPlan) → ArePlans ps plans → IsBodyPlan (graph_of_pou p) plan → ArePlans (ps ++ p ∷ []) (plans ++ plan ∷ [])
  joined [] [] p plan all one = (one, tt)
  joined [] (x ∷ plans) p plan all one = absurd all
  joined (q ∷ ps) [] p plan all one = absurd all
  joined (q ∷ ps) (x ∷ plans) p plan all one = (all.0, joined ps plans p plan all.1 one)

  pub plans_more : (i : ℕ) (p : Pou) (sources : List (List Source)) (plans : List BodyPlan) (plan : BodyPlan) → i < length pous → p ≡ get_or pous i p → sources ≡ get_or bodies i sources
      → ArePlans (take i pous) plans → IsBodyPlan (body_graph p.body.elements sources) plan → ArePlans (take (i + 1) pous) (plans ++ plan ∷ [])
  plans_more i p sources plans plan low there read before one =
      let more : take (i + 1) pous ≡ take i pous ++ p ∷ [] = take_more pous i p low ∙ ap (λ (r : Pou). take i pous ++ r ∷ []) (sym there) in
      subst (λ ps. ArePlans ps (plans ++ plan ∷ [])) (sym more)
      (joined (take i pous) plans p plan before (subst (λ (s : List (List Source)). IsBodyPlan (body_graph p.body.elements s) plan) (sources_here i p sources low there read) one))

  pub plans_end : (i : ℕ) (plans : List BodyPlan) → length pous ≤ i → ArePlans (take i pous) plans → ArePlans pous plans
  plans_end i plans high all = subst (λ ps. ArePlans ps plans) (take_all i pous high) all
