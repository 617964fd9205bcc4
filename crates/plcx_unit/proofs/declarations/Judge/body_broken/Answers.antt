use Rattle.std.proofs.Common.{List, map, ap, ◌∙◌}
use Rattle.plcx_st.specs.declared.tree.PouText.{PouText}
use Rattle.plcx_conditions.specs.First.{first_of}
use Rattle.plcx_conditions.specs.Placed.{statements}
use Rattle.plcx_conditions.specs.Places.{placed_statement, placed_pou}
use Rattle.plcx_conditions.specs.Known.{Setting}
use Rattle.plcx_conditions.specs.Statements.{broken_in_statements}
use Rattle.plcx_conditions.specs.Declarations.{setting}
use Rattle.plcx_known.specs.Unit.{bare_of}
use Rattle.plcx_unit.specs.Pieces.{standing}
use Rattle.plcx_unit.proofs.Declared.{setting_is, one_by_one}
use Rattle.plcx_unit.proofs.declarations.Judge.body_broken.Goals as goal

pub returns : goal.returns
returns c =
    let body = map placed_statement c.args.pou.now.body in
    let p = placed_pou c.args.pou.now in
    let found = rw c.as_slice.ensures at c.in_ok-statements.ensures in
    found
    ∙ ap (λ (s : Setting). first_of (broken_in_statements s (statements body))) (ap (λ (ps : List PouText). standing ps c.args.place) c.self.view_is ∙ setting_is c.args.self.now c.args.place p c.requires)
    ∙ ap first_of (one_by_one (setting (bare_of c.args.self.now) p) body)
