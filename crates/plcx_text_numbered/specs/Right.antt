-- When the numbers of an expression are right: what each has to be the number of, where the expression mentions it.
use Rattle.std.specs.Prelude.{◌≡◌, ℕ, List, [], ◌∷◌, Some, slice_get}
use Rattle.plcx_types.specs.Name.{in_lower_case}
use Rattle.plcx_meaning.specs.Base.{Path}
use Rattle.plcx_meaning.specs.Tree.{Expression, Number, Name, Member, Apply, Not, Binary, Expressions, no_expression, expression}
use Rattle.plcx_meaning.specs.Execute.{Referent, Temporary, Kept, Bound, referent}
use Rattle.plcx_meaning.specs.Typed.{variable_in}
use Rattle.plcx_steps.specs.declared.program.Operand.TheVariants.{Leaf, InOut}
use Rattle.plcx_text_numbered.specs.Prepared.{Place, Held, Stored, Numbering}

-- What a POU has by numbers: the leaves of its instances with paths within them, its in-outs and its temporaries by their names without case.
pub record Plan : Type 0 where
  pub paths : List Path
  pub in_outs : List (List ℕ)
  pub temporaries : List (List ℕ)

-- the place is that of the name, by what the name means
abbrev pub IsPlaceOf : Plan → List ℕ → Referent → Place → Type 0
IsPlaceOf plan x (Temporary t) (Held w) = slice_get plan.temporaries w ≡ Some (in_lower_case x)
IsPlaceOf plan x (Kept t) (Stored (Leaf offset)) = slice_get plan.paths offset ≡ Some (in_lower_case x ∷ [])
IsPlaceOf plan x (Bound t) (Stored (InOut j)) = slice_get plan.in_outs j ≡ Some (in_lower_case x)
IsPlaceOf plan x _ _ = ⊥

-- the numbers that an expression mentions
abbrev mutual
  pub RightExpression : Plan → Numbering → Expression → Type 0
  RightExpression plan c (Number v) = Unit {0}
  RightExpression plan c (Name x) = IsPlaceOf plan x (referent c.scope.world (variable_in c.scope x)) (c.place x)
  RightExpression plan c (Member i x) = slice_get plan.paths (c.inner i x) ≡ Some (in_lower_case x ∷ in_lower_case i ∷ [])
  RightExpression plan c (Apply x es) = RightExpressions plan c es
  RightExpression plan c (Not e) = RightExpression plan c e
  RightExpression plan c (Binary op a b) = RightExpression plan c a × RightExpression plan c b

  pub RightExpressions : Plan → Numbering → Expressions → Type 0
  RightExpressions plan c no_expression = Unit {0}
  RightExpressions plan c (expression e es) = RightExpression plan c e × RightExpressions plan c es
