-- Lists in blocks: what the elements of the ring are, by their place.
use Rattle.std.proofs.Common.{◌≡◌, ℕ, zero, suc, ◌+◌, ◌*◌, ◌<◌, List, ◌++◌, length, get_or, flat_map, refl, ap, ◌∙◌, arith, length-append}
use Rattle.std.proofs.lemmas.List.{get_or_append_left, get_or-append-add}
use Rattle.std.specs.List.{range_with_len}

module _ {A : Type 0} (g : ℕ → List A) (w : ℕ) (each : (i : ℕ) → length (g i) ≡ w) where
  -- so many blocks from a on
  abbrev pub blocks : ℕ → ℕ → List A
  blocks a m = flat_map g (range_with_len a m)

  pub blocks_length : (a m : ℕ) → length (blocks a m) ≡ w * m
  blocks_length a zero = omega arith
  blocks_length a (suc m) = let rest = blocks_length (a + 1) m in let one = each a in length-append (g a) (blocks (a + 1) m) ∙ omega arith

  -- the k-th of the block of b
  pub at_block : (a m j k i b : ℕ) (d : A) → j < m → k < w → i ≡ w * j + k → b ≡ a + j → get_or (blocks a m) i d ≡ get_or (g b) k d
  at_block a zero j k i b d below within e f = absurd (omega arith)
  at_block a (suc m) zero k i b d below within e f =
      let same : i ≡ k = omega arith in
      let here : i < length (g a) = omega (arith, each a) in
      let head : a ≡ b = omega arith in
      get_or_append_left (g a) (blocks (a + 1) m) d i here ∙ (ap (λ n. get_or (g a) n d) same ∙ ap (λ n. get_or (g n) k d) head)
  at_block a (suc m) (suc j) k i b d below within e f =
      let behind : i ≡ length (g a) + (w * j + k) = omega (arith, each a) in
      ap (λ n. get_or (g a ++ blocks (a + 1) m) n d) behind
      ∙ (get_or-append-add (g a) (blocks (a + 1) m) (w * j + k) d ∙ at_block (a + 1) m j k (w * j + k) b d (omega arith) within refl (omega arith))
