use Rattle.std.proofs.Common.{◌≡◌, List, None, map, ap, ◌∙◌, subst}
use Rattle.std.specs.Prelude.{MatchOption}
use Rattle.plcx_meaning.specs.Execute.{program_named}
use Rattle.plcx_st.specs.declared.tree.PouText.{PouText}
use Rattle.plcx_st.specs.declared.tree.Unit as tree
use Rattle.plcx_st.specs.Meant.{pou_meant}
use Rattle.plcx_text_layout.specs.Opening.{IsProgramAt}
use Rattle.plcx_text_layout.proofs.Places.{place_is}
use Rattle.plcx_text_layout.proofs.opening.program_place.Goals as goal

pub returns : goal.returns
returns c =
    let name = c.args.name.now in
    let same = c.as_slice.ensures ∙ ap (λ (u : tree.Unit). u.pous) c.unit.ensures.unit in
    subst (λ (ps : List PouText). MatchOption c.place_among.result (program_named name (map pou_meant ps) ≡ None) (IsProgramAt (map pou_meant ps) name)) same
    (place_is name c.as_slice.result.now c.place_among.result c.place_among.ensures)
