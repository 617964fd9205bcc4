use Rattle.std.proofs.Common.{Bool, List, ap, subst, ◌∙◌}
use Rattle.plcx_st.specs.declared.tree.PouText.{PouText}
use Rattle.plcx_conditions.specs.declared.broken.Condition.TheVariants.{Recursion}
use Rattle.plcx_conditions.specs.Broken.{broken_if}
use Rattle.plcx_conditions.specs.First.{first_of}
use Rattle.plcx_known.specs.Owned.{shown_variable}
use Rattle.plcx_known.specs.Chains.{leads_on}
use Rattle.plcx_unit.specs.Answers.{Tells}
use Rattle.plcx_unit.proofs.declarations.Judge.chain_broken.Goals as goal

pub returns : goal.returns
returns c = λ is.
    let kept = c.self.inside in
    let told = subst (λ (ps : List PouText). Tells ps kept.chains.behind.items kept.chains.any kept.large.items) c.self.view_is c.self.invariant in
    c.broken_if.ensures
    ∙ ap (λ (b : Bool). first_of (broken_if b Recursion c.args.own.now.decl.now.name.span.start)) (c.starts.ensures ∙ ap (leads_on kept.chains.behind.items) is ∙ told.starts (shown_variable c.args.own.now))
