-- What the rules from 20 on are judged over: the elements of all bodies, in document order.
use Rattle.std.specs.Prelude.{ℕ, ◌+◌, List, [], ◌∷◌, ◌++◌, take}
use Rattle.plcx_model.specs.declared.body.BodyElement.{BodyElement}
use Rattle.plcx_model.specs.declared.broken.Place.{Place}
use Rattle.plcx_model.specs.declared.broken.Place.TheVariants.{Element}
use Rattle.plcx_model.specs.declared.project.Pou.{Pou}

-- a POU with its place among the POUs, and an element of its body with its place there
pub record Item : Type 0 where
  pub pou : ℕ
  pub owner : Pou
  pub place : ℕ
  pub element : BodyElement

-- some elements of a POU's body, from that place on
abbrev pub items_in : ℕ → Pou → ℕ → List BodyElement → List Item
items_in pou owner place [] = []
items_in pou owner place (e ∷ es) = record { pou = pou; owner = owner; place = place; element = e } ∷ items_in pou owner (place + 1) es

-- the elements of some POUs, from that place on
abbrev pub items_from : ℕ → List Pou → List Item
items_from pou [] = []
items_from pou (p ∷ ps) = items_in pou p 0 p.body.elements ++ items_from (pou + 1) ps

-- the elements of all POUs
unfoldable pub items_of : List Pou → List Item
items_of pous = items_from 0 pous

-- the elements of its body before it
abbrev pub earlier : Item → List BodyElement
earlier x = take x.place x.owner.body.elements

-- where a rule is broken
abbrev pub place_of : Item → Place
place_of x = Element x.owner.name x.element.local_id
