-- Which words a text may not declare, by what they name.
use Rattle.std.specs.Prelude.{◌≡◌, ℕ, true, List}
use Rattle.plcx_types.specs.declared.ty.Ty.{Ty}
use Rattle.plcx_types.specs.Name.{in_lower_case}
use Rattle.plcx_types.specs.Reserved.{is_keyword, is_in, enables}
use Rattle.plcx_types.specs.TypeName.{type_name}
use Rattle.plcx_funcs.specs.declared.func.Func.{Func}
use Rattle.plcx_funcs.specs.Names.{NamesFunction}
use Rattle.plcx_std.specs.declared.kind.StdKind.{StdKind}
use Rattle.plcx_std.specs.Kind.{NamesKind}

-- a keyword, EN or ENO, or the name of a type, of a function, a conversion among them, or of a standard block, whatever the case of its letters
pub data IsTaken (word : List ℕ) : Type 0 where
  keyword : is_keyword word ≡ true → IsTaken word
  enable : is_in enables word ≡ true → IsTaken word
  type : (t : Ty) → in_lower_case word ≡ in_lower_case (type_name t) → IsTaken word
  function : (g : Func) → NamesFunction word g → IsTaken word
  block : (k : StdKind) → NamesKind word k → IsTaken word
