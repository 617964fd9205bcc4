use Rattle.std.proofs.Common.{◌≡◌, ◌∙◌, List, map, ap, sym, subst}
use Rattle.std.proofs.Math.Logic.{∥∥₁_elim}
use Rattle.std.specs.List.{IsDistinct, IsDistinct-prop}
use Rattle.plcx_drawn.specs.Pous.{shown_pou}
use Rattle.plcx_view.specs.Diagrams.{diagrams_of}
use Rattle.plcx_cover.specs.declared.counting.CoverRow.{CoverRow}
use Rattle.plcx_cover.specs.Counts.{fresh, rows_of}
use Rattle.plcx_cover.specs.Keys.{key_of, same_key}
use Rattle.plcx_cover.specs.Listed.{shown_wire}
use Rattle.plcx_cover.specs.Wires.{wires_of}
use Rattle.plcx_cover.proofs.Distinct.{rows_distinct}
use Rattle.plcx_cover.proofs.counting.Cover.open.Goals as goal

pub of-requires : goal.of-requires
of-requires c =
    let a = c.args.checked.now in
    let project = diagrams_of a.project a.links a.types a.plan in
    let drawn = ap (map (shown_pou a.project.pous)) c.deref.ensures.value ∙ c.in_ok-drawings.ensures in
    let wires = c.in_ok-wires.ensures a.project.pous ∙ ap wires_of drawn in
    let rows : c.in_ok-rows.rows.items ≡ rows_of project = c.in_ok-rows.ensures ∙ ap (λ ws. map fresh (map shown_wire ws)) c.deref-2.ensures.value ∙ ap (map fresh) wires in
    subst (λ (xs : List CoverRow). IsDistinct same_key (map key_of xs)) (sym rows)
    (∥∥₁_elim a.checked (IsDistinct-prop same_key (map key_of (rows_of project))) (λ checked. rows_distinct project (c.checked_fits.ensures a.project a.links a.types a.plan checked)))
