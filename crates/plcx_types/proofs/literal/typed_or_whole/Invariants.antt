use Rattle.std.proofs.Common.{◌≡◌, drop}
use Rattle.plcx_types.specs.Name.{in_lower_case}
use Rattle.plcx_types.specs.ReadLiteral.{typed_or_whole}
use Rattle.plcx_types.proofs.literal.typed_or_whole.Given as goal

-- no type so far stands before the text
abbrev pub invariant-loop-ty : goal.invariant-loop-ty
invariant-loop-ty l = typed_or_whole (drop l.ty-index l.types) (in_lower_case l.text) ≡ typed_or_whole l.types (in_lower_case l.text)
