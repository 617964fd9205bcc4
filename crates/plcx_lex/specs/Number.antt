-- Which text is a number of the text's language, and which number of which type it is, also where that lies outside its type.
use Rattle.std.specs.Prelude.{◌++◌, ℕ, ℤ, List, codes}
use Rattle.plcx_types.specs.declared.ty.Ty.{Ty}
use Rattle.plcx_types.specs.declared.ty.Ty.TheVariants as ty
use Rattle.plcx_types.specs.Name.{in_lower_case}
use Rattle.plcx_types.specs.Literal.{type_word, IsTruth, IsNumber}
use Rattle.plcx_types.specs.Duration.{IsTime}

-- TRUE and FALSE, or a number behind the name of its type, in lower case
pub data IsTyped : List ℕ → Ty → ℤ → Type 0 where
  truth : {text : List ℕ} {n : ℤ} → IsTruth text n → IsTyped text ty.Bool n
  typed : {t : Ty} {text : List ℕ} {n : ℤ} → IsNumber t text n → IsTyped (type_word t ++ (codes "#" ++ text)) t n
  short_time : {text : List ℕ} {n : ℤ} → IsTime text n → IsTyped (codes "t#" ++ text) ty.Time n

-- the same with letters in any case
abbrev pub IsLiteral : List ℕ → Ty → ℤ → Type 0
IsLiteral text t n = IsTyped (in_lower_case text) t n
