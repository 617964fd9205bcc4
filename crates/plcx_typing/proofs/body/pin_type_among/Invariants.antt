use Rattle.std.proofs.Common.{◌≡◌, [], drop}
use Rattle.plcx_typing.specs.Sheets.{sheet}
use Rattle.plcx_typing.specs.Tests.{pin_has}
use Rattle.plcx_typing.specs.Judgings.{first_type}
use Rattle.plcx_typing.proofs.body.pin_type_among.Given as goal

abbrev pub invariant-loop-ty : goal.invariant-loop-ty
invariant-loop-ty l = first_type (pin_has (sheet l.forms [] []) l.marks l.pin l.sources) (drop l.ty-index l.types) ≡ first_type (pin_has (sheet l.forms [] []) l.marks l.pin l.sources) l.types
