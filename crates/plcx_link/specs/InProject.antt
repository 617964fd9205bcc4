-- A POU in a project.
use Rattle.std.specs.Prelude.{List}
use Rattle.plcx_model.specs.declared.project.Pou.{Pou}

-- a POU, and all POUs of its project
pub record InProject : Type 0 where
  pub pous : List Pou
  pub owner : Pou
