use Rattle.std.proofs.Common.{map, sym, ◌∙◌, ap, subst}
use Rattle.plcx_model.specs.declared.body.BodyElement.{BodyElement}
use Rattle.plcx_model.specs.Graph.{IsGraph}
use Rattle.plcx_model.specs.Numbering.{key_of, kind_takes_part, wires_from}
use Rattle.plcx_model.proofs.BodyGraphs.{same_graph, is_graph}
use Rattle.plcx_model.proofs.wires.Wires.of.Goals as goal

pub invariant_of-result : goal.invariant_of-result
invariant_of-result c =
    let es = c.args.body.now.elements in
    let pins = c.args.sources.now in
    let keys = c.in_ok-keys.ensures ∙ ap (map key_of) c.elements-elements.ensures in
    let parts = c.in_ok-parts.ensures ∙ ap (map (λ (e : BodyElement). kind_takes_part e.kind)) c.elements-elements.ensures in
    let wires = c.in_ok-wires.ensures ∙ ap (λ xs. wires_from 0 xs pins) c.elements-elements.ensures in
    record { graph = subst IsGraph (sym (same_graph c.in_ok-keys.keys.items (map key_of es) c.in_ok-parts.parts.items (map (λ (e : BodyElement). kind_takes_part e.kind) es) c.in_ok-wires.wires.items (wires_from 0 es pins) keys parts wires)) (is_graph es pins c.requires) }

pub returns : goal.returns
returns c =
    let es = c.args.body.now.elements in
    let pins = c.args.sources.now in
    let keys = c.in_ok-keys.ensures ∙ ap (map key_of) c.elements-elements.ensures in
    let parts = c.in_ok-parts.ensures ∙ ap (map (λ (e : BodyElement). kind_takes_part e.kind)) c.elements-elements.ensures in
    let wires = c.in_ok-wires.ensures ∙ ap (λ xs. wires_from 0 xs pins) c.elements-elements.ensures in
    same_graph c.in_ok-keys.keys.items (map key_of es) c.in_ok-parts.parts.items (map (λ (e : BodyElement). kind_takes_part e.kind) es) c.in_ok-wires.wires.items (wires_from 0 es pins) keys parts wires
