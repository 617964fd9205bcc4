use Rattle.std.proofs.Common.{◌≡◌, ◌++◌, take}
use Rattle.std.specs.Prelude.{codes}
use Rattle.std.specs.List.{flat_map}
use Rattle.plcx_types.specs.Lists.{Each}
use Rattle.plcx_state.specs.Tables.{IsPlain}
use Rattle.plcx_state.proofs.path.with_others.Given as goal

abbrev pub invariant-loop-name : goal.invariant-loop-name
invariant-loop-name l = record {
  text : l.text.items ≡ l.initial.text.items ++ flat_map (λ other. codes "." ++ other) (take l.name-index l.others);
  others : Each IsPlain (take l.name-index l.others);
}
