use Rattle.std.proofs.Common.{◌∙◌, map, ap}
use Rattle.plcx_model.specs.declared.project.Pou.{Pou}
use Rattle.plcx_rules.specs.Sources.{sources_in}
use Rattle.plcx_link.specs.InProject.{InProject}
use Rattle.plcx_link.proofs.PinLists.{map_map}
use Rattle.plcx_link.proofs.linking.linked.Goals as goal

pub returns-in_ok-sources_of-in-None : goal.returns-in_ok-sources_of-in-None
returns-in_ok-sources_of-in-None c = λ project are.
    let of = λ (b : InProject). sources_in b.owner.body.elements in
    record {
      kept = rw c.in-None.is at (c.in_ok-rule.ensures project.pous are);
      sources = c.in_ok-sources_of-in-None.ensures ∙ (ap (map of) are ∙ map_map of (λ (p : Pou). let b : InProject = record { pous = project.pous; owner = p } in b) project.pous);
    }
