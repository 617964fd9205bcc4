use Rattle.std.proofs.Common.{◌∙◌, Some, sym, ap}
use Rattle.plcx_model.specs.declared.broken.Place.TheVariants.{Element}
use Rattle.plcx_model.specs.declared.project.Pou.{Pou}
use Rattle.plcx_link.proofs.Judgings.{a_place}
use Rattle.plcx_link.proofs.judging.first_place.Goals as goal

pub returns-in-Some : goal.returns-in-Some
returns-in-Some c = λ pou.
    ap (λ (p : Pou). Some (Element p.name c.in-Some.local_id)) (c.pou.ensures ∙ c.owner.ensures)
    ∙ a_place c.args.body.now c.args.rule pou c.in-Some.local_id (sym c.in-Some.is ∙ c.in_ok-first_in_body.ensures pou)
