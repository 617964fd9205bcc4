-- A file that is told stands for one retained state at most, and is refused at one line.
use Rattle.std.proofs.Common.{◌≡◌, ◌<◌, ◌≤◌, ◌+◌, ◌∙◌, ℕ, List, Option, Some, None, length, refl, sym, ap, subst, arith}
use Rattle.plcx_types.specs.Value.{Value}
use Rattle.plcx_types.specs.Limits.{max_file_bytes}
use Rattle.plcx_state.specs.declared.layout.Leaf.{Leaf}
use Rattle.plcx_state.specs.Tables.{IsTold}
use Rattle.plcx_state.specs.Lines.{StandsForRetained, IsFirstWrong, file_lines}
use Rattle.plcx_traced.specs.Files.{IsLoaded, IsLong, TellsRetained, IsWrongLine, long, wrong}
use Rattle.plcx_traced.proofs.OneLines.{wrong_line_same, no_wrong_line, kept_same}

-- the bytes of a file that is told are one
pub bytes_same : (told : Option (List ℕ)) (held a b : List ℕ) → told ≡ Some held → IsLoaded told a → IsLoaded told b → a ≡ b
bytes_same (Some h) held a b e x y = x.tells ∙ sym y.tells
bytes_same None held a b e x y = absurd (cc)

-- and there are not too many
pub not_long : (told : Option (List ℕ)) (held a : List ℕ) → told ≡ Some held → IsLoaded told a → IsLong told → ⊥
not_long (Some h) held a e x l = let same = ap length x.tells in let short = x.short in omega arith
not_long None held a e x l = absurd (cc)

module _ (told : Option (List ℕ)) (held : List ℕ) (is : told ≡ Some held) (leaves : List Leaf) where
  pub told_kept : IsTold leaves → (a b : List (Option Value)) → TellsRetained told leaves a → TellsRetained told leaves b → a ≡ b
  told_kept plain a b h k =
      let same = bytes_same told held h.bytes k.bytes is h.loaded k.loaded in
      kept_same leaves plain k.bytes a b (subst (λ (bytes : List ℕ). StandsForRetained leaves bytes a) same h.stands) k.stands

  pub told_no_line : (kept : List (Option Value)) (line : ℕ) → TellsRetained told leaves kept → IsWrongLine told leaves line → ⊥
  told_no_line kept line h (long l) = not_long told held h.bytes is h.loaded l
  told_no_line kept line h (wrong bytes loaded place first) =
      let same = bytes_same told held bytes h.bytes is loaded h.loaded in
      no_wrong_line leaves h.bytes kept h.stands place (subst (λ (b : List ℕ). IsFirstWrong leaves (file_lines b) place) same first)

  pub told_line : (m n : ℕ) → IsWrongLine told leaves m → IsWrongLine told leaves n → m ≡ n
  told_line m n (long l) (long l') = refl
  told_line m n (long l) (wrong bytes loaded place first) = absurd (not_long told held bytes is loaded l)
  told_line m n (wrong bytes loaded place first) (long l) = absurd (not_long told held bytes is loaded l)
  told_line m n (wrong bytes loaded place first) (wrong bytes' loaded' place' first') =
      let same = bytes_same told held bytes bytes' is loaded loaded' in
      ap (λ p. p + 1) (wrong_line_same leaves (file_lines bytes') place place' (subst (λ (b : List ℕ). IsFirstWrong leaves (file_lines b) place) same first) first')
