-- Serves proofs: flags and counts by place.
use Rattle.std.specs.Prelude.{ℕ, ◌+◌, Bool, false, ◌||◌, nat_lt, List, [], ◌∷◌, Option, Some, None, slice_get, fold, if◌then◌else◌}
use Rattle.std.specs.List.{list_any}
use Rattle.plcx_profile.specs.declared.sizes.Content.{Content}
use Rattle.plcx_profile.specs.declared.sizes.Size.{Size}
use Rattle.plcx_profile.specs.Sizes.{plus, own}
use Rattle.plcx_types.specs.Limits.{max_leaves, max_parts}
use Rattle.plcx_draft.specs.declared.draft.DraftPou.{DraftPou}

-- a flag, or FALSE where there is none
abbrev pub flag_or : Option Bool → Bool
flag_or None = false
flag_or (Some b) = b

-- a count, or 0 where there is none
abbrev pub count_or : Option ℕ → ℕ
count_or None = 0
count_or (Some n) = n

-- a flag stands at one of its blocks
unfoldable pub reached : List Bool → Content → Bool
reached flags c = list_any (λ (b : ℕ). flag_or (slice_get flags b)) c.blocks

-- what it has itself, and the counts at its blocks
unfoldable pub summed : Size → List ℕ → Content → ℕ
summed size counts c = fold (λ m (b : ℕ). plus m (count_or (slice_get counts b))) (own size c) c.blocks

-- the first POU of which there is too much, by its counts
abbrev pub first_above : List ℕ → List ℕ → ℕ → List DraftPou → Option ℕ
first_above leaves parts i [] = None
first_above leaves parts i (p ∷ ps) = if nat_lt max_leaves (count_or (slice_get leaves i)) || nat_lt max_parts (count_or (slice_get parts i))
    then Some p.start else first_above leaves parts (i + 1) ps
