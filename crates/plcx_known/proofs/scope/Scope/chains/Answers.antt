use Rattle.std.proofs.Common.{Bool, List, ap, ap₂, sym, ◌∙◌}
use Rattle.std.specs.List.{list_any}
use Rattle.plcx_types.specs.Limits.{max_instance_chain}
use Rattle.plcx_conditions.specs.Placed.{bare_variable}
use Rattle.plcx_known.specs.Unit.{placed_of, bare_of}
use Rattle.plcx_known.specs.Types.{type_of}
use Rattle.plcx_known.specs.Chains.{leads_on, next_level, levels}
use Rattle.plcx_known.proofs.LongChains.{chain_is, any_is}
use Rattle.plcx_known.proofs.scope.Scope.chains.Goals as goal

pub returns-clause-starts : goal.returns-clause-starts
returns-clause-starts c = λ v.
    ap (λ (ls : List Bool). leads_on ls (type_of (bare_of c.args.self.now) v.declaration.ty.name)) (c.in_ok-behind.ensures ∙ ap (levels max_instance_chain) c.owners-owners.ensures)
    ∙ sym (chain_is (placed_of c.args.self.now) max_instance_chain (bare_variable v))

pub returns-clause-any : goal.returns-clause-any
returns-clause-any c =
    let owners = c.owners-owners.ensures in
    let behind = c.deref.ensures.value ∙ c.in_ok-behind.ensures ∙ ap (levels max_instance_chain) owners in
    c.any_marked-any.ensures ∙ ap (list_any (λ (b : Bool). b)) (c.deref-2.ensures.value ∙ c.in_ok-next_level.ensures ∙ ap₂ next_level owners behind) ∙ any_is (placed_of c.args.self.now)
