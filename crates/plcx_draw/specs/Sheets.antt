-- A POU whose names are looked up.
use Rattle.std.specs.Prelude.{◌≡◌, List, map}
use Rattle.plcx_model.specs.declared.project.Pou.{Pou}
use Rattle.plcx_draw.specs.declared.known.Known.{Known}
use Rattle.plcx_draw.specs.Known.{shown_known, looked_up}

-- a POU among those of its project
pub record Placed : Type 0 where
  pub pous : List Pou
  pub pou : Pou

-- these are the elements of the POU's body, each with what its texts lead to
abbrev pub AreKnown : List Pou → Pou → List Known → Type 0
AreKnown pous p known = map shown_known known ≡ map (looked_up pous p) p.body.elements

-- this is one of them
abbrev pub IsKnown : Placed → Known → Type 0
IsKnown at k = shown_known k ≡ looked_up at.pous at.pou k.element.now
