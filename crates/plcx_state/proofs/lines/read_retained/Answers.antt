use Rattle.std.proofs.Common.{◌∙◌, sym, subst}
use Rattle.plcx_state.specs.Retains.{IsRetainedOf}
use Rattle.plcx_state.proofs.Keeping.{kept_suits}
use Rattle.plcx_state.proofs.lines.read_retained.Goals as goal

pub returns-clause-state : goal.returns-clause-state
returns-clause-state c =
    let told = c.in_ok-kept.ensures in
    subst (IsRetainedOf c.args.layout.now.leaves) (sym (c.of.ensures ∙ told.kept)) (kept_suits c.args.layout.now told.laid _ _ told.lines)
