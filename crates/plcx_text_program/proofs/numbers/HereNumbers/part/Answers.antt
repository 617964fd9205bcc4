use Rattle.std.proofs.Common.{◌+◌, map, ap, ap₂, ◌∙◌}
use Rattle.plcx_st.specs.Meant.{pou_meant}
use Rattle.plcx_text_lines.specs.Shown.{shown_formal}
use Rattle.plcx_text_tables.specs.Tabled.{shown_number, shown_table}
use Rattle.plcx_text_program.specs.Told.{pou_at}
use Rattle.plcx_text_program.proofs.Leading.{inner_part, inner_leaf}
use Rattle.plcx_text_program.proofs.numbers.HereNumbers.part.Goals as goal

pub returns-in_ok-behind-in-Some-clause-leaf : goal.returns-in_ok-behind-in-Some-clause-leaf
returns-in_ok-behind-in-Some-clause-leaf c =
    let here = c.args.self.now in
    let unit = map pou_meant here.tables.now in
    let n = shown_number c.in-Some.number in
    let found = rw c.in-Some.is at c.in_ok-find.ensures in
    let inner = inner_part unit here.told.0 (pou_at unit here.place) (shown_table c.table-table.result.now) c.table-table.ensures c.args.instance.now c.args.name.now n _ found c.in_ok-part-in-Some.ensures in
    let leaf = inner_leaf unit here.told.0 (pou_at unit here.place) (shown_table c.table-table.result.now) c.table-table.ensures c.args.instance.now c.args.name.now n found in
    c.in_ok-behind-in-Some.ensures.leaf ∙ ap₂ (λ x y. x + y) leaf inner.leaf

pub returns-in_ok-behind-in-Some-clause-ty : goal.returns-in_ok-behind-in-Some-clause-ty
returns-in_ok-behind-in-Some-clause-ty c =
    let here = c.args.self.now in
    let unit = map pou_meant here.tables.now in
    let found = rw c.in-Some.is at c.in_ok-find.ensures in
    let inner = inner_part unit here.told.0 (pou_at unit here.place) (shown_table c.table-table.result.now) c.table-table.ensures c.args.instance.now c.args.name.now (shown_number c.in-Some.number) _ found c.in_ok-part-in-Some.ensures in
    c.in_ok-behind-in-Some.ensures.ty ∙ inner.ty

pub returns-in_ok-behind-in-Some-clause-formal : goal.returns-in_ok-behind-in-Some-clause-formal
returns-in_ok-behind-in-Some-clause-formal c =
    let here = c.args.self.now in
    let unit = map pou_meant here.tables.now in
    let found = rw c.in-Some.is at c.in_ok-find.ensures in
    let inner = inner_part unit here.told.0 (pou_at unit here.place) (shown_table c.table-table.result.now) c.table-table.ensures c.args.instance.now c.args.name.now (shown_number c.in-Some.number) _ found c.in_ok-part-in-Some.ensures in
    ap shown_formal c.in_ok-behind-in-Some.ensures.formal ∙ inner.formal
