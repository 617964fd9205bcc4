-- What is declared, as the code sees it.
use Rattle.plcx_profile.specs.declared.declaration.Declaration as code
use Rattle.plcx_profile.specs.declared.declaration.Declaration.TheVariants as variant
use Rattle.plcx_profile.specs.Declarations.{Declared, OfPou, OfVariable}

-- a POU, or a variable in its list
abbrev pub shown : code.Declaration → Declared
shown (variant.Pou p) = OfPou p.now
shown (variant.Variable list v) = OfVariable list.now v.now
