use Rattle.std.proofs.Common.{◌≡◌, ◌∷◌, ◌∙◌, List, sym, subst, rules}
use Rattle.std.specs.declared.result.Result.TheVariants.{Err}
use Rattle.plcx_scan.specs.Files.{Record}
use Rattle.plcx_ticks.specs.ReadTicks.{IsFirstUnread, nothing}
use Rattle.plcx_ticks.proofs.TickFiles.{header_unread, rows_unread, with_header}
use Rattle.plcx_ticks.proofs.reading.read_records.Goals as goal

pub returns-then-not-branch-clause-err : goal.returns-then-not-branch-clause-err
returns-then-not-branch-clause-err c = nothing (rw c.if-not-branch.true at c.in_ok-read.ensures)

pub returns-in_default-clause-err : goal.returns-in_default-clause-err
returns-in_default-clause-err c =
    let first : c.args.records.now ≡ c.read.new.row ∷ c.read.new.self = rw c.if-not-branch.false at c.in_ok-read.ensures in
    let none = rw c.in_default.is at c.in_ok-columns.ensures in
    subst (λ (rows : List Record). IsFirstUnread c.args.instances.now c.args.tables.now rows 1) (sym first)
    (header_unread c.args.instances.now c.args.tables.now c.read.new.row c.read.new.self (sym none))

pub returns-in_err-read_rows-clause-err : goal.returns-in_err-read_rows-clause-err
returns-in_err-read_rows-clause-err c =
    let first : c.args.records.now ≡ c.read.new.row ∷ c.read.new.self = rw c.if-not-branch.false at c.in_ok-read.ensures in
    let some = rw c.in-Some.is at c.in_ok-columns.ensures in
    let same : c.from_residual-in_err-read_rows.result ≡ Err c.in_err-read_rows.field-0.0 = search rules in
    let why = rw c.deref.ensures.value at c.in_err-read_rows.ensures.err in
    rw (same, first) (rows_unread c.args.instances.now c.args.tables.now c.read.new.row c.read.new.self c.in-Some.columns.items (sym some) c.in_err-read_rows.field-0.0 why)

pub returns-clause-ok : goal.returns-clause-ok
returns-clause-ok c =
    let first : c.args.records.now ≡ c.read.new.row ∷ c.read.new.self = rw c.if-not-branch.false at c.in_ok-read.ensures in
    let some = rw c.in-Some.is at c.in_ok-columns.ensures in
    let read = rw c.deref.ensures.value at c.in_ok-read_rows.ensures.ok in
    rw first (with_header c.args.instances.now c.args.tables.now c.read.new.row c.read.new.self c.in-Some.columns.items (sym some) ∙ read)
