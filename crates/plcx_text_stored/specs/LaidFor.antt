-- The layout of a program of a unit.
use Rattle.std.specs.Prelude.{◌≡◌, List, []}
use Rattle.plcx_meaning.specs.Tree.{PouText}
use Rattle.plcx_meaning.specs.Execute.{scope_of}
use Rattle.plcx_state.specs.Layouts.{Laid}
use Rattle.plcx_state.specs.Meanings.{IsLayoutOf}

-- The layout is that of the program: its leaves are those of the meaning. A text remembers nothing but leaves.
pub record IsLaidFor (unit : List PouText) (p : PouText) (l : Laid) : Type 0 where
  pub leaves : IsLayoutOf (scope_of unit p) l
  pub memories : l.memories ≡ []
