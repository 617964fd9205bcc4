-- The counts of a project's wires as a text.
use Rattle.std.specs.Prelude.{ℕ, ◌++◌, Bool, ◌&&◌, List, [], ◌∷◌, codes, nat_lt, if◌then◌else◌}
use Rattle.std.specs.Fmt.{decimal}
use Rattle.std.specs.List.{count_by}
use Rattle.plcx_types.specs.declared.ty.Ty.TheVariants as ty
use Rattle.plcx_types.specs.TypeName.{same_ty}
use Rattle.plcx_meaning.specs.Diagram.{Project}
use Rattle.plcx_cover.specs.declared.counting.CoverRow.{CoverRow}
use Rattle.plcx_cover.specs.Wires.{Wire, wires_of}

-- the wire of a row is a BOOL
abbrev pub is_bool : CoverRow → Bool
is_bool row = same_ty row.ty ty.Bool

-- it was TRUE, and was FALSE too
abbrev pub is_covered : CoverRow → Bool
is_covered row = is_bool row && (nat_lt 0 row.trues && nat_lt row.trues row.evaluated)

-- how often it was TRUE; nothing is said of a wire that is no BOOL
abbrev pub trues_text : CoverRow → List ℕ
trues_text row = if is_bool row then decimal row.trues else []

-- a field, behind which another stands
abbrev pub field : List ℕ → List ℕ
field text = text ++ codes ","

-- the line of a wire with its row: the POU, the element, the pin, and both counts
abbrev pub line : Wire → CoverRow → List ℕ
line w row = field w.name ++ (field (decimal w.id) ++ (field w.pin ++ (field (decimal row.evaluated) ++ (trues_text row ++ codes "\n"))))

-- the lines of wires, each with its row
abbrev pub lines : List Wire → List CoverRow → List ℕ
lines [] rows = []
lines (w ∷ ws) [] = []
lines (w ∷ ws) (row ∷ rows) = line w row ++ lines ws rows

-- how many of the BOOLs were TRUE and FALSE
abbrev pub summary : List CoverRow → List ℕ
summary rows = codes "covered " ++ (decimal (count_by is_covered rows) ++ (codes " of " ++ (decimal (count_by is_bool rows) ++ codes "\n")))

-- the rows of a project's wires as a text
abbrev pub cover_text : Project → List CoverRow → List ℕ
cover_text project rows = codes "pou,element,pin,evaluated,true\n" ++ (lines (wires_of project) rows ++ summary rows)
