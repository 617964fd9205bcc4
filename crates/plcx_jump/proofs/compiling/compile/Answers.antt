use Rattle.std.proofs.Common.{◌≡◌, ◌∙◌, ap, map, subst, sym}
use Rattle.plcx_meaning.specs.Ready.{IsReady}
use Rattle.plcx_meaning.specs.Same.{Behaves}
use Rattle.plcx_meaning.specs.Templates.{unit_of}
use Rattle.plcx_st.specs.Fitting.{UnitFits}
use Rattle.plcx_st.specs.InRange.{UnitInRange}
use Rattle.plcx_st.specs.Meant.{pou_meant}
use Rattle.plcx_view.specs.Diagrams.{diagrams_of}
use Rattle.plcx_jump.proofs.compiling.compile.Goals as goal

pub returns : goal.returns
returns c =
    let a = c.args.checked.now in
    let diagrams = diagrams_of a.project a.links a.types a.plan in
    let fits = c.checked_fits.ensures a.project a.links a.types a.plan in
    let same : map pou_meant c.from_vec.result ≡ unit_of diagrams = ap (map pou_meant) c.from_vec.ensures ∙ c.in_ok-texts.ensures in
    record {
      unit = same;
      in_range = λ checked. subst UnitInRange (sym same) (c.texts_are_in_range.ensures.range diagrams (fits checked));
      fits = λ checked. subst UnitFits (sym same) (c.texts_are_in_range.ensures.fits diagrams (fits checked));
      ready = λ checked. subst IsReady (sym same) (c.texts_are_ready.ensures diagrams (fits checked));
      behaves = λ checked. subst (Behaves diagrams) (sym same) (c.same_behavior.ensures.behaves diagrams (fits checked));
    }
