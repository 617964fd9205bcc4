-- The values of a file come to one thing in a new version.
use Rattle.std.proofs.Common.{◌≡◌, ◌≢◌, ◌∙◌, ℕ, List, Option, Some, refl, sym, ap, subst}
use Rattle.std.specs.Prelude.{Result, Ok, Err}
use Rattle.plcx_types.specs.Value.{Value}
use Rattle.plcx_state.specs.Layouts.{Laid, IsLaid}
use Rattle.plcx_state.specs.Tables.{IsTold}
use Rattle.plcx_traced.proofs.OneFile.{told_kept, told_line, told_no_line}
use Rattle.plcx_keep.specs.Carries.{carry_of, value_at}
use Rattle.plcx_keep.specs.Texts.{state_lines}
use Rattle.plcx_keep.proofs.OneState.{one_state}
use Rattle.plcx_keep.proofs.Rows.{rows_are}
use Rattle.plcx_migrate.specs.Migrations.{IsWritten, IsMigrated, ComesTo}
use Rattle.plcx_migrate.specs.declared.migrating.Form.{Form}
use Rattle.plcx_migrate.specs.declared.migrating.Form.TheVariants.{Lines, Report}
use Rattle.plcx_migrate.specs.declared.error.MigrateError.{MigrateError}
use Rattle.plcx_migrate.specs.declared.error.MigrateError.TheVariants.{RetainedRead, Line, NoMemory}

-- what is written of one state is one text
one_written : (form : Form) (before after : Laid) → IsLaid after → (kept : List (Option Value)) (x y : List ℕ)
    → IsWritten form before.leaves after.leaves (carry_of before.leaves kept after.leaves) x → IsWritten form before.leaves after.leaves (carry_of before.leaves kept after.leaves) y → x ≡ y
one_written Lines before after laid kept x y h k =
    h.text_is
    ∙ ap (state_lines after.leaves) (one_state after.leaves (carry_of before.leaves kept after.leaves).rows h.state k.state (rows_are (value_at before.leaves kept) after laid) h.carried k.carried)
    ∙ sym k.text_is
one_written Report before after laid kept x y h k = h ∙ sym k

module _ (form : Form) (told : Option (List ℕ)) (held : List ℕ) (is : told ≡ Some held) (before after : Laid) (is_laid : IsLaid before) (laid : IsLaid after) where
  one_text : (x y : List ℕ) → IsMigrated form told before.leaves after.leaves x → IsMigrated form told before.leaves after.leaves y → x ≡ y
  one_text x y h k =
      let plain : IsTold before.leaves = record { apart = is_laid.layout.apart; named = is_laid.named; plain = h.plain } in
      let same : h.kept ≡ k.kept = told_kept told held is before.leaves plain h.kept k.kept h.tells k.tells in
      one_written form before after laid k.kept x y
      (subst (λ (kept : List (Option Value)). IsWritten form before.leaves after.leaves (carry_of before.leaves kept after.leaves) x) same h.written) k.written

  pub one_migration : (x y : Result (List ℕ) MigrateError) → x ≢ Err NoMemory → y ≢ Err NoMemory
      → ComesTo form told ⊥ before.leaves after.leaves x → ComesTo form told ⊥ before.leaves after.leaves y → x ≡ y
  one_migration (Ok x) (Ok y) n m h k = ap Ok (one_text x y h k)
  one_migration (Ok x) (Err RetainedRead) n m h k = absurd k
  one_migration (Ok x) (Err (Line line)) n m h k = absurd (told_no_line told held is before.leaves h.kept line h.tells k)
  one_migration (Ok x) (Err NoMemory) n m h k = absurd (m refl)
  one_migration (Err RetainedRead) y n m h k = absurd h
  one_migration (Err (Line line)) (Ok y) n m h k = absurd (told_no_line told held is before.leaves k.kept line k.tells h)
  one_migration (Err (Line line)) (Err RetainedRead) n m h k = absurd k
  one_migration (Err (Line line)) (Err (Line other)) n m h k = ap (λ l. Err (Line l)) (told_line told held is before.leaves line other h k)
  one_migration (Err (Line line)) (Err NoMemory) n m h k = absurd (m refl)
  one_migration (Err NoMemory) y n m h k = absurd (n refl)
