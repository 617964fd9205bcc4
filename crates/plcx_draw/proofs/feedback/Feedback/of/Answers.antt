use Rattle.std.proofs.Common.{◌∙◌, ◌&&◌, ◌||◌, ℕ, List, Bor, map, nat_eq, take, ap}
use Rattle.std.proofs.lemmas.List.{take_all}
use Rattle.std.specs.List.{list_any}
use Rattle.std.specs.Str.{bytes_eq}
use Rattle.plcx_meaning.specs.Diagram.{DiagramElement}
use Rattle.plcx_draw.specs.declared.feedback.Bare.{Bare}
use Rattle.plcx_draw.specs.Feedback.{shown_bare, kind_reads_back}
use Rattle.plcx_draw.proofs.FeedbackLaws.{adds_more}
use Rattle.plcx_draw.proofs.feedback.Feedback.of.Goals as goal

pub loop-element-preserved : goal.loop-element-preserved
loop-element-preserved c =
    let element = c.element-item.result in
    let reads = λ (id : ℕ) (pin : List ℕ) (e : DiagramElement). kind_reads_back id pin e.kind in
    adds_more shown_bare reads c.args.elements.now c.loop-element.element-index element element (record { outputs = c.new.result }) c.loop-element.found c.in_ok-found.found c.loop-element-test.true c.element-item.is c.loop-element.invariant c.in_ok-found.ensures

pub returns : goal.returns
returns c id pin =
    let test = λ (e : DiagramElement). kind_reads_back id pin e.kind in
    let all = c.args.elements.now in
    c.loop-element.invariant id pin
    ∙ ap (λ (keys : List (ℕ × Bor (List ℕ))). list_any (λ (o : ℕ × Bor (List ℕ)). nat_eq id o.0 && bytes_eq pin o.1.now) keys || list_any test (map shown_bare (take c.loop-element.element-index all))) c.new.ensures.empty
    ∙ ap (λ (es : List Bare). list_any test (map shown_bare es)) (take_all c.loop-element.element-index all c.loop-element-test.false)
