-- The memories of a store by their numbers, and those of the diagram by their cells.
use Rattle.std.proofs.Common.{◌≡◌, ◌∷◌, ◌∙◌, ℕ, zero, suc, ℤ, pos, Bool, true, false, List, [], Some, length, refl, sym, ap, arith, if◌then◌else◌}
use Rattle.std.specs.Prelude.{slice_get, ◌&&◌}
use Rattle.std.proofs.lemmas.Option.{same_Some}
use Rattle.plcx_types.specs.Value.{Value}
use Rattle.plcx_meaning.specs.Base.{Path, Memory}
use Rattle.plcx_meaning.specs.Evaluate.{restarted_memories}
use Rattle.plcx_meaning.specs.Layout.{Scope, Restart, Warm, Cold, is_retained}
use Rattle.plcx_state.specs.declared.layout.Memory.{Memory as Kept}
use Rattle.plcx_state.specs.Retains.{Pairwise}
use Rattle.plcx_state.specs.Stores.{default_for, all_defaults, memory_starts_of, is_warm, all_again}
use Rattle.plcx_steps.specs.Numbered.{number_at}
use Rattle.plcx_numbered.specs.Agreeing.{Cell, plain_cell}

abbrev AreRetained : Scope → List Kept → List Cell → Type 0
AreRetained c memories cells = Pairwise (λ (m : Kept) (x : Cell). m.retained ≡ is_retained c x.0) memories cells

-- at first each is 0
pub defaults_zero : (memories : List Kept) (i : ℕ) → pos 0 ≡ number_at (all_defaults memories) i
defaults_zero [] i = refl
defaults_zero (m ∷ memories) zero = refl
defaults_zero (m ∷ memories) (suc i) = defaults_zero memories i

-- after a restart each is as the restart has it in the meaning, at each spelling of its cell
module _ (c : Scope) (r : Restart) (m : Path → Memory → ℤ) where
  again_one : (kept : Kept) (v : Value) (k : Cell) → kept.retained ≡ is_retained c k.0 → m k.0 k.1 ≡ v.n → restarted_memories c r m k.0 k.1 ≡ (if is_warm r && kept.retained then v else default_for kept).n
  again_one kept v k e same = by r kept.retained e
    where
      by : (r : Restart) (b : Bool) → b ≡ is_retained c k.0 → restarted_memories c r m k.0 k.1 ≡ (if is_warm r && b then v else default_for kept).n
      by Warm true is = ap (λ (t : Bool). if t then m k.0 k.1 else pos 0) (sym is) ∙ same
      by Warm false is = ap (λ (t : Bool). if t then m k.0 k.1 else pos 0) (sym is)
      by Cold b is = refl

  pub again_at : (memories : List Kept) (cells : List Cell) (values : List Value) → AreRetained c memories cells → length memories ≡ length values
      → (i : ℕ) (k : Cell) → slice_get cells i ≡ Some (plain_cell k) → m k.0 k.1 ≡ number_at values i → restarted_memories c r m k.0 k.1 ≡ number_at (all_again (is_warm r) (memory_starts_of memories) values) i
  again_at memories [] values kept e i k at same = absurd (cc)
  again_at [] (x ∷ cells) values kept e i k at same = absurd kept
  again_at (y ∷ memories) (x ∷ cells) [] kept e i k at same = absurd (omega arith)
  again_at (y ∷ memories) (x ∷ cells) (v ∷ values) kept e zero k at same = again_one y v k (kept.0 ∙ ap (λ (z : Cell). is_retained c z.0) (same_Some x (plain_cell k) at)) same
  again_at (y ∷ memories) (x ∷ cells) (v ∷ values) kept e (suc i) k at same = again_at memories cells values kept.1 (omega arith) i k at same
