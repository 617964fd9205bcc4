-- Declarations whose names are names.
use Rattle.std.specs.Prelude.{IsTrue}
use Rattle.plcx_types.specs.Lists.{Each}
use Rattle.plcx_types.specs.Name.{is_identifier}
use Rattle.plcx_meaning.specs.Tree.{Declaration, Block}

-- a variable and its type have the names that they need
abbrev pub IsNamed : Declaration → Type 0
IsNamed d = IsTrue (is_identifier d.name) × IsTrue (is_identifier d.ty)

-- so have those of a block
abbrev pub BlockIsNamed : Block → Type 0
BlockIsNamed b = Each IsNamed b.declarations
