-- What is said of layouts and stores is a proposition.
use Rattle.std.proofs.Common.{ℤ, List, [], ◌∷◌}
use Rattle.std.proofs.Props.{props}
use Rattle.std.specs.Coded.{×_prop, Unit-prop}
use Rattle.plcx_types.specs.declared.ty.Ty.{Ty}
use Rattle.plcx_types.specs.Value.{Value}
use Rattle.plcx_meaning.specs.Diagram.{Pou, Project}
use Rattle.plcx_meaning.specs.Evaluate.{DiagramState}
use Rattle.plcx_meaning.specs.Layout.{Leaf}
use Rattle.plcx_meaning.specs.Run.{Told}
use Rattle.plcx_state.specs.Layouts.{Laid}
use Rattle.plcx_state.specs.Retains.{Pairwise}
use Rattle.plcx_state.specs.Stores.{Stored}
use Rattle.plcx_numbered.specs.Agreeing.{Holds}
use Rattle.plcx_stored.specs.LaidFor.{IsLaidFor}
use Rattle.plcx_stored.specs.Between.{AgreesWith}

types_set : IsSet Ty
types_set = hlevel props

leaf_set : IsSet Leaf
leaf_set = hlevel (types_set, props)

pub told_set : IsSet Told
told_set = hlevel props

pairwise_prop : {A B : Type 0} (R : A → B → Type 0) → ((x : A) (y : B) → IsProp (R x y)) → (xs : List A) (ys : List B) → IsProp (Pairwise R xs ys)
pairwise_prop R prop [] [] = Unit-prop
pairwise_prop R prop [] (y ∷ ys) = hlevel
pairwise_prop R prop (x ∷ xs) [] = hlevel
pairwise_prop R prop (x ∷ xs) (y ∷ ys) = ×_prop (prop x y) (pairwise_prop R prop xs ys)

pub laid_prop : (project : Project) (p : Pou) (l : Laid) → IsProp (IsLaidFor project p l)
laid_prop project p l = hlevel (pairwise_prop, leaf_set, types_set, props)

holds_prop : {K : Type 0} (plain : K → K) (keys : List K) (f : K → ℤ) (xs : List Value) → IsProp (Holds plain keys f xs)
holds_prop plain keys f xs = hlevel props

pub agrees_prop : (project : Project) (p : Pou) (d : DiagramState) (s : Stored) → IsProp (AgreesWith project p d s)
agrees_prop project p d s = hlevel (holds_prop, props)
