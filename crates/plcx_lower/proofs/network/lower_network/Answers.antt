use Rattle.std.proofs.Common.{map}
use Rattle.plcx_st.specs.Meant.{stmt_meant}
use Rattle.plcx_drawn.specs.Shown.{shown_network}
use Rattle.plcx_lower.proofs.Doing.{does_network}
use Rattle.plcx_lower.proofs.network.lower_network.Goals as goal

pub returns-clause-does : goal.returns-clause-does
returns-clause-does c =
    does_network (shown_network c.args.drawing.now c.args.places.now) (map stmt_meant c.put_network.new.self.statements.items) (rw c.new-body.ensures at c.in_ok-put_network.ensures)
