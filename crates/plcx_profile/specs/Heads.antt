-- Serves proofs: what POUs are but for their bodies.
use Rattle.std.specs.Prelude.{List, [], ◌∷◌, map}
use Rattle.plcx_model.specs.declared.project.Pou.{Pou}
use Rattle.plcx_draft.specs.declared.draft.DraftPou.{DraftPou}
use Rattle.plcx_profile.specs.declared.settling.Head.{Head}
use Rattle.plcx_profile.specs.ProjectIn.{list_of}

-- the name and the lists of a POU
abbrev pub head_of : List DraftPou → DraftPou → Head
head_of pous p = record { name = p.name; lists = map (list_of pous) p.lists }

-- a POU by its name and lists, and by its draft
abbrev pub with_head : Head → DraftPou → Pou
with_head head p = record { name = head.name; kind = p.kind; lists = head.lists; body = p.body }

-- the same, one by one
abbrev pub joined : List Head → List DraftPou → List Pou
joined [] ps = []
joined (h ∷ hs) [] = []
joined (h ∷ hs) (p ∷ ps) = with_head h p ∷ joined hs ps
