use Rattle.std.proofs.Common.{Bool, false, List, not, ◌&&◌, get_or, ap, ap₂, sym, subst, ◌∙◌}
use Rattle.plcx_st.specs.declared.tree.PouText.{PouText}
use Rattle.plcx_conditions.specs.declared.broken.Condition.TheVariants.{Recursion}
use Rattle.plcx_conditions.specs.Broken.{broken_if}
use Rattle.plcx_conditions.specs.First.{first_of}
use Rattle.plcx_conditions.specs.Placed.{Word, Pou, bare_pou}
use Rattle.plcx_conditions.specs.Declarations.{has_chain, is_large}
use Rattle.plcx_known.specs.Unit.{placed_of, bare_of}
use Rattle.plcx_known.proofs.LongChains.{at_or, get_or_map}
use Rattle.plcx_unit.specs.Answers.{Tells}
use Rattle.plcx_unit.proofs.declarations.Judge.size_broken.Goals as goal

pub returns : goal.returns
returns c = λ p at named.
    let kept = c.self.inside in
    let told = subst (λ (ps : List PouText). Tells ps kept.chains.behind.items kept.chains.any kept.large.items) c.self.view_is c.self.invariant in
    let test = λ (q : Pou). is_large (bare_of c.args.self.now) (bare_pou q) in
    let large = c.is_marked-large.ensures ∙ ap (λ (marks : List Bool). get_or marks c.args.place false) (c.deref.ensures.value ∙ told.large) ∙ get_or_map test false (placed_of c.args.self.now) c.args.place ∙ ap (at_or test false) at in
    c.broken_if.ensures
    ∙ ap (λ (b : Bool). first_of (broken_if b Recursion c.args.name.now.span.start)) (c.is_first_cause.ensures ∙ ap₂ (λ (a b : Bool). not a && b) told.any large)
    ∙ sym (ap (λ (w : Word). first_of (broken_if (not (has_chain (bare_of c.args.self.now)) && test p) Recursion w.at)) named)
