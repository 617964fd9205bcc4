use Rattle.std.proofs.Common.{◌∙◌, ◌++◌, map, sym, ap}
use Rattle.plcx_drawn.specs.Shown.{shown_in_out_pin}
use Rattle.plcx_numbered.specs.Prepared.{Callee, bindings}
use Rattle.plcx_prepare.specs.Called.{shown_callee}
use Rattle.plcx_prepare.proofs.calls.with_bindings.Goals as goal

pub returns-in_ok-with_bound-in-User : goal.returns-in_ok-with_bound-in-User
returns-in_ok-with_bound-in-User g c =
    let numbering = g.N.Numbers.numbering c.args.numbers.now in
    let bound = map shown_in_out_pin c.args.bound.now in
    c.in_ok-with_bound-in-User.ensures
    ∙ ap (λ (k : Callee). c.args.given.items ++ bindings numbering k bound) (sym (ap shown_callee c.in-User.is) ∙ c.callee.ensures)
