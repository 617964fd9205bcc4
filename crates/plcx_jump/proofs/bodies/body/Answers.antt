use Rattle.std.proofs.Common.{Bool, ◌∙◌, subst, sym, if◌then◌else◌}
use Rattle.plcx_meaning.specs.Tree.{statements}
use Rattle.plcx_meaning.specs.Templates.{straight_text, jumping_text}
use Rattle.plcx_drawn.specs.Shown.{shown_networks}
use Rattle.plcx_st.specs.InRange.{StatementsInRange}
use Rattle.plcx_jump.proofs.Blocks.{stated}
use Rattle.plcx_jump.proofs.bodies.body.Goals as goal

pub lower_networks-requires : goal.lower_networks-requires
lower_networks-requires c =
    let networks = shown_networks c.args.drawing.now in
    stated (straight_text networks)
    (subst (λ (b : Bool). StatementsInRange (statements (if b then jumping_text networks else straight_text networks))) (sym c.requires.jumps ∙ c.if-jumps.false) c.requires.range)
