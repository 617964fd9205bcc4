-- Printed bytes stand for what was printed.
use Rattle.std.proofs.Common.{◌≡◌, ℕ, ◌≤◌, List, refl}
use Rattle.plcx_meaning.specs.Tree.{PouText}
use Rattle.plcx_lex.specs.Lexis.{tokens_from}
use Rattle.plcx_st.specs.declared.tree.Unit as tree
use Rattle.plcx_st.specs.Meant.{meant}
use Rattle.plcx_st.specs.Print.{printed, unit_lines}
use Rattle.plcx_st.specs.InRange.{UnitInRange}
use Rattle.plcx_st.specs.Fitting.{UnitFits}
use Rattle.plcx_st.specs.Depth.{printed_depth}
use Rattle.plcx_st.specs.Grammar.{limit}
use Rattle.plcx_st.specs.Stands.{StandsForUnit}
use Rattle.plcx_st.proofs.Lexed.{lexed_lines}
use Rattle.plcx_st.proofs.FineUnits.{unit_fine}
use Rattle.plcx_st.proofs.SpelledUnits.{spelled_unit}

pub printed_again : (unit : List PouText) → UnitInRange unit → UnitFits unit → (v : tree.Unit) × (d : ℕ) × (d ≤ limit) × StandsForUnit (printed unit) v d × (meant v ≡ unit)
printed_again unit good fits =
    let l = lexed_lines (unit_lines unit) (unit_fine unit good.pous fits) in
    let tokens = tokens_from 0 (printed unit) l.pieces in
    let s = spelled_unit unit tokens good.pous fits (l.shapes 0) in
    (record { pous = s.values }, printed_depth unit, good.depth, record { tokens = tokens; made = (l.pieces, (l.covers, l.all), refl); is = s.stand }, s.is)
