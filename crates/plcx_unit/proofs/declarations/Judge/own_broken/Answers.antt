use Rattle.std.proofs.Common.{◌≡◌, List, [], Some, None, slice_get, sym, ap, subst, ◌∙◌}
use Rattle.plcx_st.specs.declared.tree.PouText.{PouText}
use Rattle.plcx_st.specs.Meant.{kind_meant}
use Rattle.plcx_conditions.specs.First.{first_of}
use Rattle.plcx_conditions.specs.Placed.{Declared}
use Rattle.plcx_conditions.specs.Declarations.{broken_in_variables}
use Rattle.plcx_known.specs.Unit.{placed_of, bare_of}
use Rattle.plcx_known.specs.Parts.{owners_of}
use Rattle.plcx_unit.proofs.Declared.{owner_typed, owner_declares, owner_there}
use Rattle.plcx_unit.proofs.declarations.Judge.own_broken.Goals as goal

pub variables_broken-requires : goal.variables_broken-requires
variables_broken-requires c =
    let there = sym (rw c.in-Some.is at c.owner.ensures) in
    owner_typed (placed_of c.args.self.now) c.args.place c.in-Some.owner.now (subst (λ (ps : List PouText). slice_get (owners_of (placed_of ps)) c.args.place ≡ Some c.in-Some.owner.now) c.self.view_is there)

pub returns-in-None : goal.returns-in-None
returns-in-None c = λ p at.
    let there = sym (rw c.in-None.is at c.owner.ensures) in
    absurd (owner_there (placed_of c.args.self.now) c.args.place p (subst (λ (ps : List PouText). slice_get (owners_of (placed_of ps)) c.args.place ≡ None) c.self.view_is there) at)

pub returns-in_ok-variables_broken-in-Some : goal.returns-in_ok-variables_broken-in-Some
returns-in_ok-variables_broken-in-Some c = λ p at.
    let there = sym (rw c.in-Some.is at c.owner.ensures) in
    let ts = c.in-Some.owner.now in
    c.in_ok-variables_broken-in-Some.ensures
    ∙ ap (λ (ds : List Declared). first_of (broken_in_variables (bare_of c.args.self.now) (kind_meant c.args.kind) [] ds))
    (owner_declares (placed_of c.args.self.now) c.args.place ts p (subst (λ (ps : List PouText). slice_get (owners_of (placed_of ps)) c.args.place ≡ Some ts) c.self.view_is there) at)
