use Rattle.std.proofs.Common.{◌≡◌, ◌++◌, map, drop}
use Rattle.plcx_types.specs.TypeName.{all_types}
use Rattle.plcx_rules.specs.declared.form.WireForm.{WireForm}
use Rattle.plcx_typing.specs.Tests.{gives_has}
use Rattle.plcx_typing.specs.Judgings.{first_type}
use Rattle.plcx_typing.proofs.body.wire_types.Given as goal

abbrev pub invariant-loop-wire : goal.invariant-loop-wire
invariant-loop-wire l = l.types.items ++ map (λ (w : WireForm). first_type (gives_has l.marks w.element w.gives) all_types) (drop l.wire-index l.wires) ≡ map (λ (w : WireForm). first_type (gives_has l.marks w.element w.gives) all_types) l.wires
