use Rattle.std.proofs.Common.{◌+◌, ◌++◌, ◌∷◌, [], List, take, sym, subst}
use Rattle.std.specs.List.{AllZip}
use Rattle.plcx_tables.specs.declared.own.Own.{Own}
use Rattle.plcx_tables.specs.Tabled.{IsPlaced}
use Rattle.plcx_tables.proofs.Walks.{taken, pairs_push}
use Rattle.plcx_tables.proofs.table.tables_by.Goals as goal

pub loop-own-preserved : goal.loop-own-preserved
loop-own-preserved c =
    let R = IsPlaced c.args.leaves.now c.args.memories.now c.args.levels.now in
    let owns = c.args.owns.now in
    let i = c.loop-own.own-index in
    let own = c.own-item.result in
    let table = c.in_ok-table_of.field-0 in
    let pushed = pairs_push R (take i owns) c.loop-own.tables.items own table c.loop-own.invariant c.in_ok-table_of.ensures in
    let widened = subst (λ (os : List Own). AllZip R os (c.loop-own.tables.items ++ table ∷ [])) (sym (taken owns i own c.loop-own-test.true c.own-item.is)) pushed in
    subst (AllZip R (take (i + 1) owns)) (sym c.in_ok-push.ensures.items) widened
