use Rattle.std.proofs.Common.{◌≡◌, ◌∙◌, List, Bool, [], Some, map, get_or, ap}
use Rattle.plcx_types.specs.declared.ty.Ty.{Ty}
use Rattle.plcx_drawn.specs.Shown.{shown_element}
use Rattle.plcx_model.specs.declared.source.Source.{Source}
use Rattle.plcx_model.specs.declared.project.Pou.{Pou}
use Rattle.plcx_model.specs.declared.project.Project.{Project}
use Rattle.plcx_view.specs.Pins.{pins_from}
use Rattle.plcx_view.specs.Diagrams.{elements_of, no_plan}
use Rattle.plcx_draw.proofs.PouLaws.{pou_at, same_parts}
use Rattle.plcx_draw.proofs.bodies.drawing.Goals as goal

pub returns : goal.returns
returns c =
    let pous = c.args.scope.now in
    let project : Project = record { pous = pous } in
    let links = c.args.links.now in
    let types = c.args.types.now in
    let plan = c.args.plan.now in
    let place = c.args.place in
    let body = get_or plan.bodies place no_plan in
    let p = c.index-owners-place.result in
    let stands : p ≡ get_or pous place p = c.index-owners-place.is ∙ ap (λ (os : List Pou). get_or os place p) c.owners.ensures in
    let ts = c.types_at.result.now in
    let ss = c.sources_at.result.now in
    let own_types = get_or types.inputs place [] in
    let own_sources = get_or links.bodies place [] in
    let elements : map shown_element c.from_vec.result ≡ elements_of pous p (pins_from own_types own_sources body.marks) =
    ap (map shown_element) c.from_vec.ensures
    ∙ c.in_ok-elements.ensures
    ∙ ap (λ (marks : List Bool). elements_of pous p (pins_from ts ss marks)) c.marks_at.ensures
    ∙ ap (λ (sources : List (List Source)). elements_of pous p (pins_from ts sources body.marks)) c.sources_at.ensures
    ∙ ap (λ (tys : List Ty). elements_of pous p (pins_from tys own_sources body.marks)) c.types_at.ensures in
    pou_at project links types plan place p c.requires stands
    ∙ ap Some (same_parts pous p c.pou.result.now (elements_of pous p (pins_from own_types own_sources body.marks)) (map shown_element c.from_vec.result) body.networks c.networks_at.result.now
    c.pou.ensures elements c.networks_at.ensures)
