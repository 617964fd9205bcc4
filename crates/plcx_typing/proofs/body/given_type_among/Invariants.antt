use Rattle.std.proofs.Common.{◌≡◌, drop}
use Rattle.plcx_typing.specs.Tests.{gives_has}
use Rattle.plcx_typing.specs.Judgings.{first_type}
use Rattle.plcx_typing.proofs.body.given_type_among.Given as goal

abbrev pub invariant-loop-ty : goal.invariant-loop-ty
invariant-loop-ty l = first_type (gives_has l.marks l.element l.gives) (drop l.ty-index l.types) ≡ first_type (gives_has l.marks l.element l.gives) l.types
