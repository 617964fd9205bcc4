use Rattle.std.proofs.Common.{List, sym, ap, ◌∙◌}
use Rattle.plcx_known.specs.Owned.{Typed, shown_own}
use Rattle.plcx_known.specs.Chains.{leads_on, one_leads_on}
use Rattle.plcx_known.proofs.Places.{any_map}
use Rattle.plcx_known.proofs.chains.one_leads_on.Goals as goal

pub returns : goal.returns
returns c =
    c.any_leads_on.ensures ∙ sym (any_map (λ (t : Typed). leads_on c.args.level.now t.type) shown_own c.variables.result.now)
    ∙ ap (λ (ts : List Typed). one_leads_on c.args.level.now ts) c.variables.ensures
