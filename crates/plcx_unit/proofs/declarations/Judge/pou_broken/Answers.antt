use Rattle.std.proofs.Common.{List, map, take, refl, ap, ◌∙◌}
use Rattle.std.specs.List.{list_any}
use Rattle.plcx_st.specs.declared.tree.PouText.{PouText}
use Rattle.plcx_conditions.specs.First.{sooner}
use Rattle.plcx_conditions.specs.Placed.{Pou}
use Rattle.plcx_conditions.specs.Places.{placed_pou}
use Rattle.plcx_conditions.specs.Known.{same_name}
use Rattle.plcx_known.specs.Unit.{placed_of}
use Rattle.plcx_unit.proofs.Folding.{first_four}
use Rattle.plcx_unit.proofs.Declared.{among_pous}
use Rattle.plcx_unit.proofs.declarations.Judge.pou_broken.Goals as goal

pub returns : goal.returns
returns c =
    let p = placed_pou c.args.pou.now in
    let unit = placed_of c.args.self.now in
    let i = c.args.place in
    let told = rw c.text-name.ensures.text at c.in_ok-again.ensures in
    let again = told ∙ ap (λ (ps : List PouText). list_any (λ (q : Pou). same_name q.name.name p.name.name) (take i (placed_of ps))) (c.pous.ensures ∙ c.self.view_is) ∙ among_pous unit i p.name in
    c.sooner-3.ensures ∙ ap (sooner c.own_name_broken-named.result) (c.sooner-2.ensures ∙ ap (sooner c.in_ok-own.own) c.sooner.ensures)
    ∙ first_four _ _ _ _ _ _ _ _ (c.own_name_broken-named.ensures (map (λ (q : Pou). q.name) (take i unit)) again) (c.in_ok-own.ensures p c.requires) c.in_ok-body.ensures (c.size_broken-size.ensures p c.requires refl)
