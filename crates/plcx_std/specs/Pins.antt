-- The leaves of the standard blocks.
use Rattle.std.specs.Prelude.{ℕ, List, [], ◌∷◌, codes}
use Rattle.plcx_types.specs.declared.ty.Ty.{Ty}
use Rattle.plcx_types.specs.declared.ty.Ty.TheVariants.{Bool, Int, Time}
use Rattle.plcx_std.specs.declared.kind.StdKind.{StdKind}
use Rattle.plcx_std.specs.declared.kind.StdKind.TheVariants.{Ton, Tof, Tp, Ctu, Ctd, Ctud, Sr, Rs, RTrig, FTrig}
use Rattle.plcx_std.specs.declared.pin.Role.{Role}
use Rattle.plcx_std.specs.declared.pin.Role.TheVariants.{In, Out, Hidden}
use Rattle.plcx_std.specs.declared.pin.StdPin.{StdPin}

-- a leaf of a block
pub record Pin : Type 0 where
  pub name : List ℕ
  pub ty : Ty
  pub role : Role

-- a pin of the code as a leaf
abbrev pub shown : StdPin → Pin
shown p = record { name = p.name.now; ty = p.ty; role = p.role }

-- a leaf by its parts
abbrev pub pin : Role → List ℕ → Ty → Pin
pin role name ty = record { name = name; ty = ty; role = role }

-- the leaves of a block, in order
abbrev pub pins : StdKind → List Pin
pins Ton = pin In (codes "IN") Bool ∷ pin In (codes "PT") Time ∷ pin Out (codes "Q") Bool ∷ pin Out (codes "ET") Time
    ∷ pin Hidden (codes "RUN") Bool ∷ pin Hidden (codes "START") Time ∷ []
pins Tof = pin In (codes "IN") Bool ∷ pin In (codes "PT") Time ∷ pin Out (codes "Q") Bool ∷ pin Out (codes "ET") Time
    ∷ pin Hidden (codes "M") Bool ∷ pin Hidden (codes "RUN") Bool ∷ pin Hidden (codes "START") Time ∷ []
pins Tp = pin In (codes "IN") Bool ∷ pin In (codes "PT") Time ∷ pin Out (codes "Q") Bool ∷ pin Out (codes "ET") Time
    ∷ pin Hidden (codes "M") Bool ∷ pin Hidden (codes "RUN") Bool ∷ pin Hidden (codes "START") Time ∷ []
pins Ctu = pin In (codes "CU") Bool ∷ pin In (codes "R") Bool ∷ pin In (codes "PV") Int ∷ pin Out (codes "Q") Bool
    ∷ pin Out (codes "CV") Int ∷ pin Hidden (codes "M") Bool ∷ []
pins Ctd = pin In (codes "CD") Bool ∷ pin In (codes "LD") Bool ∷ pin In (codes "PV") Int ∷ pin Out (codes "Q") Bool
    ∷ pin Out (codes "CV") Int ∷ pin Hidden (codes "M") Bool ∷ []
pins Ctud = pin In (codes "CU") Bool ∷ pin In (codes "CD") Bool ∷ pin In (codes "R") Bool ∷ pin In (codes "LD") Bool ∷ pin In (codes "PV") Int ∷ pin Out (codes "QU") Bool
    ∷ pin Out (codes "QD") Bool ∷ pin Out (codes "CV") Int ∷ pin Hidden (codes "MU") Bool ∷ pin Hidden (codes "MD") Bool ∷ []
pins Sr = pin In (codes "S1") Bool ∷ pin In (codes "R") Bool ∷ pin Out (codes "Q1") Bool ∷ []
pins Rs = pin In (codes "S") Bool ∷ pin In (codes "R1") Bool ∷ pin Out (codes "Q1") Bool ∷ []
pins RTrig = pin In (codes "CLK") Bool ∷ pin Out (codes "Q") Bool ∷ pin Hidden (codes "M") Bool ∷ []
pins FTrig = pin In (codes "CLK") Bool ∷ pin Out (codes "Q") Bool ∷ pin Hidden (codes "M") Bool ∷ []
