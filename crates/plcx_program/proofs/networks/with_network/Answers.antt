use Rattle.std.proofs.Common.{List, refl, subst}
use Rattle.plcx_meaning.specs.Diagram.{DiagramElement}
use Rattle.plcx_drawn.specs.Shown.{shown_network, shown_networks}
use Rattle.plcx_bodies.specs.Made.{IsMade}
use Rattle.plcx_tables.specs.Networks.{numbering_of}
use Rattle.plcx_program.proofs.Growing.{network_added}
use Rattle.plcx_program.proofs.Tables.{numbers_are}
use Rattle.plcx_program.proofs.networks.with_network.Goals as goal

pub returns : goal.returns
returns c = λ project p drawn.
    let d = c.args.drawing.now in
    let es = shown_network d c.args.places.now in
    let numbers = numbering_of c.in_ok-numbers.numbers in
    let made = c.in_ok-made.made in
    let mine : IsMade numbers (shown_networks d) es c.args.before.shared made =
    subst (λ (ns : List (List DiagramElement)). IsMade numbers ns es c.args.before.shared made) c.requires.targets c.in_ok-made.ensures in
    network_added project p (shown_networks d) es numbers c.args.before _ made drawn.networks (numbers_are project c.args.tables.now.tables.now c.args.place d p drawn es c.in_ok-numbers.numbers c.in_ok-numbers.ensures) mine refl c.in_ok-push.ensures.items
