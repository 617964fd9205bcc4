use Rattle.std.proofs.Common.{◌≡◌, ◌++◌, drop, map}
use Rattle.plcx_st.specs.declared.tree.PouText.{PouText}
use Rattle.plcx_conditions.specs.Places.{placed_pou}
use Rattle.plcx_known.specs.Unit.{bare_of}
use Rattle.plcx_known.specs.Owned.{own_of}
use Rattle.plcx_known.proofs.scope.owners_of.Given as goal

abbrev pub invariant-loop-pou : goal.invariant-loop-pou
invariant-loop-pou l =
    l.owners.items ++ map (λ (p : PouText). own_of (bare_of l.fn.pous) (placed_pou p)) (drop l.pou-index l.list) ≡ map (λ (p : PouText). own_of (bare_of l.fn.pous) (placed_pou p)) l.list
