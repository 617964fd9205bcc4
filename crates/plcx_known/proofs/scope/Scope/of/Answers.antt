use Rattle.std.proofs.Common.{List, map, ap, sym, ◌∙◌}
use Rattle.plcx_st.specs.declared.tree.PouText.{PouText}
use Rattle.plcx_conditions.specs.Places.{placed_pou}
use Rattle.plcx_known.specs.Unit.{bare_of}
use Rattle.plcx_known.specs.Owned.{own_of}
use Rattle.plcx_known.proofs.Parts.{owners_are}
use Rattle.plcx_known.proofs.scope.Scope.of.Goals as goal

pub invariant_of-result : goal.invariant_of-result
invariant_of-result c =
    c.in_ok-owners.ensures
    ∙ ap (λ (ps : List PouText). map (λ (p : PouText). own_of (bare_of c.in_ok-pous.pous) (placed_pou p)) ps) (sym c.in_ok-pous.ensures)
    ∙ owners_are c.in_ok-pous.pous
