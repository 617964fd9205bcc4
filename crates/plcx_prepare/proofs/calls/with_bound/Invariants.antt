use Rattle.std.proofs.Common.{◌≡◌, ◌++◌, map, take}
use Rattle.plcx_drawn.specs.Shown.{shown_in_out_pin}
use Rattle.plcx_prepare.specs.Called.{key_of, bound_to}
use Rattle.plcx_prepare.proofs.calls.with_bound.Given as goal

abbrev pub invariant-loop-name : goal.invariant-loop-name
invariant-loop-name g l =
    let to = bound_to (g.N.Numbers.numbering l.numbers) (map shown_in_out_pin l.bound) in
    l.all.items ≡ l.fn.given.items ++ map to (map key_of (take l.name-index l.names))
