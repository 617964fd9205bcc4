-- The POUs of a unit with the places of their words, and without.
use Rattle.std.specs.Prelude.{List, map}
use Rattle.plcx_meaning.specs.Tree as tree
use Rattle.plcx_st.specs.declared.tree.PouText.{PouText}
use Rattle.plcx_conditions.specs.Placed.{Pou, bare}
use Rattle.plcx_conditions.specs.Places.{placed_pou}

abbrev pub placed_of : List PouText → List Pou
placed_of pous = map placed_pou pous

abbrev pub bare_of : List PouText → List tree.PouText
bare_of pous = bare (placed_of pous)
