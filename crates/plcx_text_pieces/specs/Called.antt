-- What instances call, and the numbers that the statements of a POU use.
use Rattle.std.specs.Prelude.{ℕ, List, [], Option, Some, None}
use Rattle.plcx_types.specs.Name.{in_lower_case}
use Rattle.plcx_std.specs.declared.kind.StdKind.{StdKind}
use Rattle.plcx_std.specs.declared.kind.StdKind.TheVariants as kind
use Rattle.plcx_std.specs.Kind.{kind_named}
use Rattle.plcx_meaning.specs.Layout.{Variable, variables_of}
use Rattle.plcx_meaning.specs.Typed.{variable_in}
use Rattle.plcx_text_numbered.specs.Prepared.{Numbering}
use Rattle.plcx_text_numbered.specs.Numbers.{leaf_number, place_named}
use Rattle.plcx_text_numbered.specs.Texts.{Owner, num, inner_in_outs}

-- A standard block from a leaf on, or a POU at its place among those of the unit, with the first of its leaves and the names of its in-outs without case.
pub data Callee : Type 0 where
  Block : StdKind → (leaf : ℕ) → Callee
  User : (pou leaves : ℕ) → (in_outs : List (List ℕ)) → Callee

-- the place of a POU in its unit, the numbers of the names of its body, and what its instances call
pub record Numbers : Type 0 where
  pub pou : ℕ
  pub names : Numbering
  pub callee : List ℕ → Callee

-- what an instance of a type calls, whose leaves begin with this one
abbrev pub callee_by : Owner → List ℕ → (type : List ℕ) → (leaf : ℕ) → Option StdKind → Callee
callee_by o i type leaf (Some k) = Block k leaf
callee_by o i type leaf None = User (place_named type o.unit) leaf (inner_in_outs o i)

-- what the variable calls that was found; anything where none was
abbrev pub callee_found : Owner → List ℕ → Option Variable → Callee
callee_found o i None = Block kind.Ton 0
callee_found o i (Some v) = callee_by o i v.ty (leaf_number o.unit (in_lower_case i) (variables_of o.pou.blocks)) (kind_named v.ty)

-- the numbers of a POU
abbrev pub numbers_of : Owner → Numbers
numbers_of o = record { pou = o.number; names = num o; callee = λ i. callee_found o i (variable_in (num o).scope i) }
