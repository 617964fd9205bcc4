-- Counts grow by what is heard, however it is parted.
use Rattle.std.proofs.Common.{◌≡◌, ◌∙◌, ℕ, ◌+◌, List, [], ◌∷◌, map, refl, sym, ap, ap₂, arith}
use Rattle.std.specs.List.{count_by, fold}
use Rattle.std.proofs.lemmas.List.Sums.{sum_by-cons}
use Rattle.std.specs.Prelude.{Bool, if◌then◌else◌}
use Rattle.plcx_meaning.specs.Evaluate.{Heard}
use Rattle.plcx_cover.specs.declared.counting.CoverRow.{CoverRow}
use Rattle.plcx_cover.specs.Counts.{is_of, is_true_of, most, raised, grown, all_grown, told, CountsGrow}

pub raised_none : (n : ℕ) → raised n 0 ≡ n
raised_none n = omega arith

raised_more : (n a b : ℕ) → raised (raised n a) b ≡ raised n (a + b)
raised_more n a b = omega arith

-- the count over one output, and over more
pub count_one : (p : Heard → Bool) (h : Heard) → count_by p (h ∷ []) ≡ (if p h then 1 else 0)
count_one p h = let one = sum_by-cons (λ x. if p x then 1 else 0) h [] in omega arith

count_more : (p : Heard → Bool) (h : Heard) (hs : List Heard) → count_by p (h ∷ []) + count_by p hs ≡ count_by p (h ∷ hs)
count_more p h hs = ap (λ n. n + count_by p hs) (count_one p h) ∙ sym (sum_by-cons (λ x. if p x then 1 else 0) h hs)

counted : (p : Heard → Bool) (n : ℕ) (h : Heard) (hs : List Heard) → raised (raised n (count_by p (h ∷ []))) (count_by p hs) ≡ raised n (count_by p (h ∷ hs))
counted p n h hs = raised_more n (count_by p (h ∷ [])) (count_by p hs) ∙ ap (raised n) (count_more p h hs)

abbrev pub row_with : CoverRow → ℕ → ℕ → CoverRow
row_with row n t = record row { evaluated = n; trues = t }

grown_none : (row : CoverRow) → grown [] row ≡ row
grown_none row = ap₂ (row_with row) (raised_none row.evaluated) (raised_none row.trues)

grown_more : (h : Heard) (hs : List Heard) (row : CoverRow) → grown hs (grown (h ∷ []) row) ≡ grown (h ∷ hs) row
grown_more h hs row = ap₂ (row_with row) (counted (is_of row) row.evaluated h hs) (counted (is_true_of row) row.trues h hs)

all_none : (rows : List CoverRow) → rows ≡ all_grown [] rows
all_none [] = refl
all_none (row ∷ rows) = ap₂ (λ (r : CoverRow) (rs : List CoverRow). r ∷ rs) (sym (grown_none row)) (all_none rows)

all_more : (h : Heard) (hs : List Heard) (rows : List CoverRow) → all_grown hs (all_grown (h ∷ []) rows) ≡ all_grown (h ∷ hs) rows
all_more h hs [] = refl
all_more h hs (row ∷ rows) = ap₂ (λ (r : CoverRow) (rs : List CoverRow). r ∷ rs) (grown_more h hs row) (all_more h hs rows)

pub counts_grow : CountsGrow
counts_grow rows [] = all_none rows
counts_grow rows (h ∷ hs) = counts_grow (told rows h) hs ∙ all_more h hs rows
