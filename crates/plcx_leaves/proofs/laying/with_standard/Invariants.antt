use Rattle.std.proofs.Common.{◌≡◌, ◌∷◌, ◌++◌, pos, false, map, drop}
use Rattle.plcx_std.specs.Pins.{Pin, pins, shown}
use Rattle.plcx_types.specs.Lists.{Each}
use Rattle.plcx_state.specs.Layouts.{all_meant, BeginsTyped}
use Rattle.plcx_leaves.specs.Leaves.{leaf_by}
use Rattle.plcx_leaves.specs.Within.{spelled}
use Rattle.plcx_leaves.proofs.laying.with_standard.Given as goal

-- behind the leaves that are made come those of the pins that are left
abbrev pub invariant-loop-pin : goal.invariant-loop-pin
invariant-loop-pin l =
    let made = λ (p : Pin). leaf_by (p.name ∷ spelled l.within) p.ty (pos 0) l.retained false in
    record {
      shown : all_meant l.more.items ++ map made (map shown (drop l.pin-index l.pin-items)) ≡ all_meant l.fn.leaves.items ++ map made (pins l.fn.kind);
      typed : Each BeginsTyped l.fn.leaves.items → Each BeginsTyped l.more.items;
    }
