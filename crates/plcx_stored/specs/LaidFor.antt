-- The layout of a program of a project.
use Rattle.std.specs.Prelude.{◌≡◌, map}
use Rattle.plcx_meaning.specs.Diagram.{Pou, Project}
use Rattle.plcx_meaning.specs.Evaluate.{scope_of}
use Rattle.plcx_meaning.specs.Layout.{is_retained}
use Rattle.plcx_state.specs.declared.layout.Memory.{Memory}
use Rattle.plcx_state.specs.Layouts.{Laid}
use Rattle.plcx_state.specs.Meanings.{IsLayoutOf}
use Rattle.plcx_state.specs.Retains.{Pairwise}
use Rattle.plcx_numbered.specs.Agreeing.{Cell}
use Rattle.plcx_numbered.specs.Numbers.{depth, cells, cell_types}

-- The layout is that of the program: its leaves are those of the meaning, and its memories go by the program's cells, each with the type of what is
-- remembered there, and retained where the instance is that it stands in.
pub record IsLaidFor (project : Project) (p : Pou) (l : Laid) : Type 0 where
  pub leaves : IsLayoutOf (scope_of project p) l
  pub types : map (λ (m : Memory). m.ty) l.memories ≡ cell_types depth project p
  pub retained : Pairwise (λ (m : Memory) (c : Cell). m.retained ≡ is_retained (scope_of project p) c.0) l.memories (cells depth project p)
