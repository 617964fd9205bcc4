use Rattle.std.proofs.Common.{ℕ, List, refl, sym, ◌∙◌}
use Rattle.std.specs.Map.{lookup}
use Rattle.std.specs.Str.{bytes_eq}
use Rattle.plcx_plan.proofs.Inserted.{inserted_as}
use Rattle.plcx_plan.proofs.Tables.{added, stays}
use Rattle.plcx_plan.proofs.programs.with_key.Goals as goal

pub returns-then-contains_key : goal.returns-then-contains_key
returns-then-contains_key c =
    let asked = rw c.as_slice.ensures.value at c.contains_key.ensures in
    λ q. stays (λ (q : List ℕ). lookup (λ k. bytes_eq q k.items) c.args.table.entries) q c.args.key.items c.args.place (sym asked ∙ c.if-contains_key.true)

pub returns : goal.returns
returns c =
    let asked = rw c.as_slice.ensures.value at c.contains_key.ensures in
    λ q. rw c.in_ok-insert.ensures.entries (inserted_as q c.args.key c.args.key.items c.args.place c.args.table.entries refl ∙ added (λ (q : List ℕ). lookup (λ k. bytes_eq q k.items) c.args.table.entries) q c.args.key.items c.args.place (sym asked ∙ c.if-contains_key.false))
