use Rattle.std.proofs.Common.{◌≡◌, ◌++◌, map}
use Rattle.plcx_typing.specs.declared.body.Judged.{Judged}
use Rattle.plcx_typing.proofs.answering.types_of.Given as goal

abbrev pub invariant-loop-one : goal.invariant-loop-one
invariant-loop-one l = record {
  inputs : l.inputs.items ++ map (λ (j : Judged). j.inputs) l.one-iterator.rest.items ≡ map (λ (j : Judged). j.inputs) l.fn.judged.items;
  wires : l.wires.items ++ map (λ (j : Judged). j.wires) l.one-iterator.rest.items ≡ map (λ (j : Judged). j.wires) l.fn.judged.items;
}
