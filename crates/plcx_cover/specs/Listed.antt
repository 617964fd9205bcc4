-- Serves proofs: the wires of the code, and their lines.
use Rattle.std.specs.Prelude.{ℕ, List, [], Option, Some, None}
use Rattle.plcx_cover.specs.declared.counting.CoverRow.{CoverRow}
use Rattle.plcx_cover.specs.declared.listing.Wire.{Wire}
use Rattle.plcx_cover.specs.Wires as wires
use Rattle.plcx_cover.specs.Texts.{line}

-- a wire as definitions have it
abbrev pub shown_wire : Wire → wires.Wire
shown_wire w = record { pou = w.pou; name = w.name.now; id = w.local_id; number = w.number; pin = w.pin.now; ty = w.ty }

-- the line of a wire, if it has a row
abbrev pub line_if : wires.Wire → Option CoverRow → List ℕ
line_if w None = []
line_if w (Some row) = line w row
