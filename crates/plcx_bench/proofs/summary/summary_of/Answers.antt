use Rattle.std.proofs.Common.{◌≡◌, ◌∙◌, ap, subst, arith, to_z, of_z, List, get_or}
use Rattle.std.specs.Int.{w128}
use Rattle.std.specs.List.{fold}
use Rattle.std.proofs.lemmas.Int.{ints}
use Rattle.std.proofs.lemmas.Result.{IfOk-weaker}
use Rattle.plcx_meaning.specs.Diagram as diagram
use Rattle.plcx_meaning.specs.Diagram.{Pou}
use Rattle.plcx_meaning.specs.Evaluate.{Heard}
use Rattle.plcx_meaning.specs.Execute as text
use Rattle.plcx_meaning.specs.Tree.{PouText}
use Rattle.plcx_model.specs.declared.project.Pou.{Pou as Drawn}
use Rattle.plcx_model.specs.declared.project.Project.{Project}
use Rattle.plcx_st.specs.Meant.{meant}
use Rattle.plcx_simulate.specs.Programs.{diagrams_in}
use Rattle.plcx_bench_project.specs.Bench.{ring}
use Rattle.plcx_bench.specs.Sides.{IsDrawn, IsWritten}
use Rattle.plcx_bench.proofs.Made.{named, written_named, of_diagram, of_text, hears_all, summary_is, heard_by_then}
use Rattle.plcx_bench.proofs.summary.summary_of.Goals as goal

pub diagram_side-requires : goal.diagram_side-requires
diagram_side-requires g c =
    let k = c.args.checked.now in
    let p = named c.args.n k.project k.links k.types k.plan c.requires.bench in
    let name : (get_or c.pous.result.now 0 c.index-pous-0.result).name ≡ (ring c.args.n).name =
    ap (λ (pous : List Drawn). (get_or pous 0 c.index-pous-0.result).name) (c.pous.ensures ∙ ap (λ (x : Project). x.pous) (c.project.ensures ∙ c.requires.bench)) in
    (p.0, ap (λ x. diagram.program_named x (diagrams_in k)) name ∙ p.1)

pub text_side-requires : goal.text_side-requires
text_side-requires g c =
    let k = c.args.checked.now in
    let q = written_named c.args.n k.project k.links k.types k.plan c.requires.bench in
    let name : (get_or c.pous.result.now 0 c.index-pous-0.result).name ≡ (ring c.args.n).name =
    ap (λ (pous : List Drawn). (get_or pous 0 c.index-pous-0.result).name) (c.pous.ensures ∙ ap (λ (x : Project). x.pous) (c.project.ensures ∙ c.requires.bench)) in
    (q.0, ap (λ x. text.program_named x (meant c.in_ok-ready.ready)) name ∙ ap (text.program_named (ring c.args.n).name) c.in_ok-ready.ensures ∙ q.1)

pub sum_of_diagram-of_diagram-requires-clause-stands : goal.sum_of_diagram-of_diagram-requires-clause-stands
sum_of_diagram-of_diagram-requires-clause-stands g c =
    let k = c.args.checked.now in
    let p = named c.args.n k.project k.links k.types k.plan c.requires.bench in
    let name : (get_or c.pous.result.now 0 c.index-pous-0.result).name ≡ (ring c.args.n).name =
    ap (λ (pous : List Drawn). (get_or pous 0 c.index-pous-0.result).name) (c.pous.ensures ∙ ap (λ (x : Project). x.pous) (c.project.ensures ∙ c.requires.bench)) in
    (_, (subst (λ x. IsDrawn (diagrams_in k) x c.in_ok-diagram.diagram) name c.in_ok-diagram.ensures).stands p.0 p.1)

pub returns-clause-summary : goal.returns-clause-summary
returns-clause-summary g c =
    let k = c.args.checked.now in
    let name : (get_or c.pous.result.now 0 c.index-pous-0.result).name ≡ (ring c.args.n).name =
    ap (λ (pous : List Drawn). (get_or pous 0 c.index-pous-0.result).name) (c.pous.ensures ∙ ap (λ (x : Project). x.pous) (c.project.ensures ∙ c.requires.bench)) in
    let begun = subst (λ x. IsDrawn (diagrams_in k) x c.in_ok-diagram.diagram) name c.in_ok-diagram.ensures in
    let written = subst (λ (u : List PouText). IsWritten u (ring c.args.n).name c.in_ok-text.text) c.in_ok-ready.ensures
    (subst (λ x. IsWritten (meant c.in_ok-ready.ready) x c.in_ok-text.text) name c.in_ok-text.ensures) in
    let d : to_z w128 (of_z w128 c.sum_of_diagram-of_diagram.result) ≡ c.sum_of_diagram-of_diagram.result = omega (arith, ints) in
    let t : to_z w128 (of_z w128 c.sum_of_scans-of_text.result) ≡ c.sum_of_scans-of_text.result = omega (arith, ints) in
    IfOk-weaker c.summary.result _ _ (λ text is.
    summary_is c.args.n k.project k.links k.types k.plan c.requires.bench c.requires.checked text.items _ _ is
    (d ∙ of_diagram c.args.n k.project k.links k.types k.plan c.requires.bench c.requires.checked c.in_ok-diagram.diagram begun c.sum_of_diagram-of_diagram.result c.sum_of_diagram-of_diagram.ensures.sum)
    (t ∙ of_text c.args.n k.project k.links k.types k.plan c.requires.bench c.requires.checked c.in_ok-text.text written c.sum_of_scans-of_text.result c.sum_of_scans-of_text.ensures.sum)) c.summary.ensures

pub returns-clause-heard : goal.returns-clause-heard
returns-clause-heard g c =
    let k = c.args.checked.now in
    let name : (get_or c.pous.result.now 0 c.index-pous-0.result).name ≡ (ring c.args.n).name =
    ap (λ (pous : List Drawn). (get_or pous 0 c.index-pous-0.result).name) (c.pous.ensures ∙ ap (λ (x : Project). x.pous) (c.project.ensures ∙ c.requires.bench)) in
    let begun = subst (λ x. IsDrawn (diagrams_in k) x c.in_ok-diagram.diagram) name c.in_ok-diagram.ensures in
    let became = λ (heard : List Heard). c.sum_of_diagram-of_diagram.new.watch ≡ fold g.W.Watch.told c.args.watch.now heard in
    heard_by_then c.args.n became
    (hears_all c.args.n k.project k.links k.types k.plan c.requires.bench c.requires.checked c.in_ok-diagram.diagram begun became c.sum_of_diagram-of_diagram.ensures.heard) c.summary.result
