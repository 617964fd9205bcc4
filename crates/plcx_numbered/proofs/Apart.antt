-- No two leaves of a program of a project that fits have one path.
use Rattle.std.proofs.Common.{◌≡◌, true, List, [], ◌∷◌, refl, sym, ◌∙◌, subst}
use Rattle.std.specs.Prelude.{not}
use Rattle.std.specs.List.{list_any}
use Rattle.std.proofs.lemmas.Bool.{and_parts, and_from, not-true, true≢false}
use Rattle.plcx_meaning.specs.Base.{Path, same_path}
use Rattle.plcx_meaning.specs.Layout.{all_apart}
use Rattle.plcx_meaning.specs.Diagram.{Pou, Project}
use Rattle.plcx_meaning.specs.Evaluate.{scope_of}
use Rattle.plcx_meaning.specs.Fits.{PouFits, ProjectFits}
use Rattle.plcx_meaning.proofs.Lists.{none_passes}
use Rattle.plcx_meaning.proofs.Names.{bytes_self}
use Rattle.plcx_meaning.proofs.LeafPaths.{proper_layout}
use Rattle.plcx_meaning.proofs.LeafScopes.{diagram_scope}
use Rattle.plcx_numbered.specs.Agreeing.{AreApart}
use Rattle.plcx_numbered.specs.Numbers.{shape_of}
use Rattle.plcx_numbered.proofs.Numbers.{apart_none, apart_cons}
use Rattle.plcx_numbered.proofs.Laid.{paths_are}

path_self : (p : Path) → same_path p p ≡ true
path_self [] = refl
path_self (x ∷ p) = and_from _ (same_path p p) (bytes_self x) (path_self p)

pub apart_of : (ps : List Path) → all_apart ps ≡ true → AreApart ps
apart_of [] h = apart_none
apart_of (p ∷ ps) h =
    let parts = and_parts (not (list_any (same_path p) ps)) (all_apart ps) h in
    apart_cons p ps (λ there. true≢false (sym (path_self p) ∙ none_passes (same_path p) ps p (not-true (list_any (same_path p) ps) parts.0) there)) (apart_of ps parts.1)

pub paths_apart : (project : Project) → ProjectFits project → (p : Pou) → PouFits project p → AreApart (shape_of project p).paths
paths_apart project fits p one =
    apart_of (shape_of project p).paths (subst (λ ps. all_apart ps ≡ true) (paths_are project p) (proper_layout (scope_of project p) (diagram_scope project fits p one)).apart)
