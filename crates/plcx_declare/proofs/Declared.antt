-- What is said of a block is said of its declarations.
use Rattle.std.proofs.Common.{List, [], ◌∷◌}
use Rattle.plcx_types.specs.Lists.{Each}
use Rattle.plcx_meaning.specs.Tree.{Class, Mark, Declaration}
use Rattle.plcx_meaning.specs.Templates.{block}
use Rattle.plcx_declare.specs.Named.{IsNamed, BlockIsNamed}

-- the declarations of a block
pub declared : (class : Class) (mark : Mark) (ds : List Declaration) → Each BlockIsNamed (block class mark ds) → Each IsNamed ds
declared class mark [] h = tt
declared class mark (d ∷ ds) h = h.0
