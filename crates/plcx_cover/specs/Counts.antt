-- How often a wire was evaluated, and how often it was TRUE.
use Rattle.std.specs.Prelude.{◌≡◌, ℕ, ◌+◌, ◌-◌, ◌^◌, Bool, ◌&&◌, List, [], ◌∷◌, map, min, nat_eq}
use Rattle.std.specs.List.{count_by, fold}
use Rattle.plcx_types.specs.declared.ty.Ty.TheVariants as ty
use Rattle.plcx_types.specs.TypeName.{same_ty}
use Rattle.plcx_types.specs.Value.{Value}
use Rattle.plcx_meaning.specs.Base.{is_true}
use Rattle.plcx_meaning.specs.Diagram.{Project}
use Rattle.plcx_meaning.specs.Evaluate.{Heard}
use Rattle.plcx_cover.specs.declared.counting.CoverRow.{CoverRow}
use Rattle.plcx_cover.specs.Wires.{Wire, wires_of}

-- ---- rows

-- the row of a wire, before anything is heard
abbrev pub fresh : Wire → CoverRow
fresh w = record { pou = w.pou; local_id = w.id; pin = w.number; ty = w.ty; evaluated = 0; trues = 0 }

-- a row for each wire of a project
abbrev pub rows_of : Project → List CoverRow
rows_of project = map fresh (wires_of project)

-- ---- counts

-- an output that is heard is one of the row's wire
abbrev pub is_of : CoverRow → Heard → Bool
is_of row h = nat_eq h.pou row.pou && (nat_eq h.id row.local_id && nat_eq h.number row.pin)

-- the value is TRUE
abbrev pub is_truth : Value → Bool
is_truth v = same_ty v.ty ty.Bool && is_true v.n

-- and one of the row's wire that is TRUE
abbrev pub is_true_of : CoverRow → Heard → Bool
is_true_of row h = is_of row h && is_truth h.value

-- the most that is counted
abbrev pub most : ℕ
most = 2 ^ 64 - 1

-- so many more, but no more than the most
abbrev pub raised : ℕ → ℕ → ℕ
raised n more = n + min more (most - n)

-- What a row is after outputs are heard: its wire was evaluated once for each of them that is of it, and TRUE once for each of these that is TRUE.
abbrev pub grown : List Heard → CoverRow → CoverRow
grown hs row = record row { evaluated = raised row.evaluated (count_by (is_of row) hs); trues = raised row.trues (count_by (is_true_of row) hs) }

-- what rows are
abbrev pub all_grown : List Heard → List CoverRow → List CoverRow
all_grown hs rows = map (grown hs) rows

-- after one more
abbrev pub told : List CoverRow → Heard → List CoverRow
told rows h = all_grown (h ∷ []) rows

-- whoever is told outputs one after another has counted all of them
abbrev pub CountsGrow : Type 0
CountsGrow = (rows : List CoverRow) (hs : List Heard) → fold told rows hs ≡ all_grown hs rows
