use Rattle.std.proofs.Common.{sym, ap, ◌∙◌, arith}
use Rattle.std.specs.Prelude.{slice_get}
use Rattle.plcx_tables.proofs.Within.{placed_within}
use Rattle.plcx_tables.proofs.table.table_of.Goals as goal

pub invariant_of-result : goal.invariant_of-result
invariant_of-result c =
    let own = c.args.own.now in
    record {
      within = λ i p h.
          let low = placed_within c.args.leaves.now c.args.memories.now 0 own.memories.count 0 own.variables.items i p (ap (λ ps. slice_get ps i) (sym c.in_ok-placed.ensures) ∙ h) in
          omega (arith, low, c.in_ok-count.ensures, c.in_ok-leaves_of.ensures);
    }
