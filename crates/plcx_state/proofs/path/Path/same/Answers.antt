use Rattle.plcx_state.proofs.Paths.{same_meant}
use Rattle.plcx_state.proofs.path.Path.same.Goals as goal

pub returns : goal.returns
returns c =
    let h = rw (c.names.ensures, c.names-2.ensures) at c.are_same.ensures in
    same_meant c.are_same.result c.args.self.now c.args.other.now h
