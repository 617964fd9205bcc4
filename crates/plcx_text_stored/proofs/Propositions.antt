-- What is said of layouts and stores is a proposition.
use Rattle.std.proofs.Common.{ℤ, List}
use Rattle.std.proofs.Props.{props}
use Rattle.plcx_types.specs.declared.ty.Ty.{Ty}
use Rattle.plcx_types.specs.Value.{Value}
use Rattle.plcx_meaning.specs.Execute.{TextState}
use Rattle.plcx_meaning.specs.Layout.{Leaf}
use Rattle.plcx_meaning.specs.Tree.{PouText}
use Rattle.plcx_state.specs.declared.layout.Memory.{Memory}
use Rattle.plcx_state.specs.Layouts.{Laid}
use Rattle.plcx_state.specs.Stores.{Stored}
use Rattle.plcx_numbered.specs.Agreeing.{Holds}
use Rattle.plcx_text_stored.specs.LaidFor.{IsLaidFor}
use Rattle.plcx_text_stored.specs.Between.{AgreesWith}

types_set : IsSet Ty
types_set = hlevel props

leaf_set : IsSet Leaf
leaf_set = hlevel (types_set, props)

memory_set : IsSet Memory
memory_set = hlevel (types_set, props)

pub laid_prop : (unit : List PouText) (p : PouText) (l : Laid) → IsProp (IsLaidFor unit p l)
laid_prop unit p l = hlevel (leaf_set, memory_set, props)

holds_prop : {K : Type 0} (plain : K → K) (keys : List K) (f : K → ℤ) (xs : List Value) → IsProp (Holds plain keys f xs)
holds_prop plain keys f xs = hlevel props

pub agrees_prop : (unit : List PouText) (p : PouText) (g : TextState) (s : Stored) → IsProp (AgreesWith unit p g s)
agrees_prop unit p g s = hlevel (holds_prop, props)
