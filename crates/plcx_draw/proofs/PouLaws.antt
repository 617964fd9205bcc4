-- The POU at a place of the diagrams of a project.
use Rattle.std.proofs.Common.{◌≡◌, ℕ, zero, suc, ◌+◌, ◌<◌, List, [], ◌∷◌, Some, get_or, length, refl, sym, ap, ◌∙◌, arith}
use Rattle.std.specs.Option.{option_map}
use Rattle.std.specs.List.{slice_get}
use Rattle.plcx_meaning.specs.Diagram as diagram
use Rattle.plcx_meaning.specs.Diagram.{DiagramElement}
use Rattle.plcx_model.specs.declared.plan.Links.{Links}
use Rattle.plcx_model.specs.declared.plan.Types.{Types}
use Rattle.plcx_model.specs.declared.plan.Plan.{Plan}
use Rattle.plcx_model.specs.declared.project.Pou.{Pou}
use Rattle.plcx_model.specs.declared.project.Project.{Project}
use Rattle.plcx_view.specs.Diagrams.{pou_of, pous_from, no_plan, with_networks}

-- the diagram of a POU at a place
abbrev pub pou_by : Project → Links → Types → Plan → ℕ → Pou → diagram.Pou
pou_by project links types plan place p = pou_of project.pous p (get_or links.bodies place []) (get_or types.inputs place []) (get_or plan.bodies place no_plan)

from_place : (project : Project) (links : Links) (types : Types) (plan : Plan) (n : ℕ) (ps : List Pou) (i : ℕ)
    → slice_get (pous_from project links types plan n ps) i ≡ option_map (pou_by project links types plan (n + i)) (slice_get ps i)
from_place project links types plan n [] i = refl
from_place project links types plan n (p ∷ ps) zero =
    let same : n ≡ n + 0 = omega arith in
    ap (λ m. Some (pou_by project links types plan m p)) same
from_place project links types plan n (p ∷ ps) (suc i) =
    let same : n + 1 + i ≡ n + suc i = omega arith in
    from_place project links types plan (n + 1) ps i ∙ ap (λ m. option_map (pou_by project links types plan m) (slice_get ps i)) same

there : (ps : List Pou) (i : ℕ) (p : Pou) → i < length ps → p ≡ get_or ps i p → slice_get ps i ≡ Some p
there [] i p within is = absurd (omega arith)
there (q ∷ ps) zero p within is = ap Some (sym is)
there (q ∷ ps) (suc i) p within is = let less : i < length ps = omega arith in there ps i p less is

-- the POU that stands at a place has its diagram there
pub pou_at : (project : Project) (links : Links) (types : Types) (plan : Plan) (i : ℕ) (p : Pou) → i < length project.pous → p ≡ get_or project.pous i p
    → slice_get (pous_from project links types plan 0 project.pous) i ≡ Some (pou_by project links types plan i p)
pou_at project links types plan i p within is =
    let same : 0 + i ≡ i = omega arith in
    from_place project links types plan 0 project.pous i
    ∙ ap (λ m. option_map (pou_by project links types plan m) (slice_get project.pous i)) same
    ∙ ap (option_map (pou_by project links types plan i)) (there project.pous i p within is)

-- a POU by its parts
pub same_parts : (pous : List Pou) (p q : Pou) (es fs : List DiagramElement) (ns ms : List (List ℕ)) → q ≡ p → fs ≡ es → ms ≡ ns → with_networks pous p es ns ≡ with_networks pous q fs ms
same_parts pous p q es fs ns ms same_pou same_elements same_networks = rw (same_pou, same_elements, same_networks) refl
