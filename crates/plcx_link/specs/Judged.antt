-- Serves proofs: what is found of a broken rule.
use Rattle.std.specs.Prelude.{ℕ, List, map, drop, Option, option_map}
use Rattle.std.specs.List.{find}
use Rattle.plcx_model.specs.declared.broken.Place.{Place}
use Rattle.plcx_model.specs.declared.broken.Place.TheVariants.{Element}
use Rattle.plcx_model.specs.declared.project.Pou.{Pou}
use Rattle.plcx_rules.specs.declared.rule.LinkRule.{LinkRule}
use Rattle.plcx_rules.specs.Items.{Item, items_in}
use Rattle.plcx_rules.specs.LinkRules.{breaks, link_place}
use Rattle.plcx_link.specs.InProject.{InProject}
use Rattle.plcx_link.specs.declared.judging.ElementPlace.{ElementPlace}

-- the localId of an item
abbrev pub local_id_of : Item → ℕ
local_id_of x = x.element.local_id

-- a place as the code finds it
abbrev pub shown_place : ElementPlace → Place
shown_place p = Element p.pou.now p.local_id

-- a rule and its place
abbrev pub shown_broken : LinkRule × ElementPlace → LinkRule × Place
shown_broken b = (b.0, shown_place b.1)

-- each of some POUs, in a project of those POUs
abbrev pub bodies_of : List Pou → List Pou → List InProject
bodies_of pous owners = map (λ (p : Pou). let b : InProject = record { pous = pous; owner = p } in b) owners

-- the localId of the first element of a body that breaks a rule, from that place on
abbrev pub first_from : InProject → LinkRule → ℕ → ℕ → Option ℕ
first_from b r pou place = option_map local_id_of (find (breaks b.pous r) (items_in pou b.owner place (drop place b.owner.body.elements)))

-- the place of the first element of a body that breaks a rule
abbrev pub place_in : InProject → LinkRule → ℕ → Option Place
place_in b r pou = option_map (link_place r) (find (breaks b.pous r) (items_in pou b.owner 0 b.owner.body.elements))
