-- A number of networks has one summary.
use Rattle.std.proofs.Common.{◌≡◌, ◌∙◌, ℕ, List, sym, ap, ap₂, subst}
use Rattle.std.proofs.lemmas.Option.{same_Some}
use Rattle.plcx_meaning.specs.Diagram as diagram
use Rattle.plcx_meaning.specs.Diagram.{Pou}
use Rattle.plcx_meaning.specs.Evaluate.{diagram_machine}
use Rattle.plcx_meaning.specs.Execute as text
use Rattle.plcx_meaning.specs.Execute.{text_machine}
use Rattle.plcx_meaning.specs.Templates.{unit_of}
use Rattle.plcx_meaning.specs.Tree.{PouText}
use Rattle.plcx_model.specs.declared.plan.Links.{Links}
use Rattle.plcx_model.specs.declared.plan.Types.{Types}
use Rattle.plcx_model.specs.declared.plan.Plan.{Plan}
use Rattle.plcx_model.specs.declared.project.Project.{Project}
use Rattle.plcx_view.specs.Checked.{IsChecked}
use Rattle.plcx_view.specs.Diagrams.{diagrams_of}
use Rattle.plcx_bench_project.specs.Bench.{ring}
use Rattle.plcx_bench.specs.Summary.{sum_at_end, AreMeasured, Measured, diagram_sum, text_sum, summary, IsSummary}

module _ (one_diagram : (project : Project) (links links' : Links) (types types' : Types) (plan plan' : Plan) → IsChecked project links types plan → IsChecked project links' types' plan'
    → diagrams_of project links types plan ≡ diagrams_of project links' types' plan') where
  one_measured : (n : ℕ) (a b : diagram.Project) → AreMeasured n a → AreMeasured n b → a ≡ b
  one_measured n a b h k =
      let same : h.project ≡ k.project = h.is ∙ sym k.is in
      h.are
      ∙ ap (λ (p : Project). diagrams_of p h.links h.types h.plan) same
      ∙ one_diagram k.project h.links k.links h.types k.types h.plan k.plan (subst (λ (p : Project). IsChecked p h.links h.types h.plan) same h.checked) k.checked
      ∙ sym k.are

  module _ (n : ℕ) (h k : Measured n) where
    same : h.diagrams ≡ k.diagrams
    same = one_measured n h.diagrams k.diagrams h.are k.are

    programs : h.program ≡ k.program
    programs = same_Some h.program k.program (sym h.named ∙ ap (diagram.program_named (ring n).name) same ∙ k.named)

    texts : h.written ≡ k.written
    texts = same_Some h.written k.written (sym h.written_named ∙ ap (λ (d : diagram.Project). text.program_named (ring n).name (unit_of d)) same ∙ k.written_named)

    drawn_same : diagram_sum h ≡ diagram_sum k
    drawn_same = ap₂ (λ (d : diagram.Project) (p : Pou). sum_at_end (diagram_machine d p)) same programs

    written_same : text_sum h ≡ text_sum k
    written_same = ap₂ (λ (d : diagram.Project) (q : PouText). sum_at_end (text_machine (unit_of d) q)) same texts

  pub one_summary : (n : ℕ) (a b : List ℕ) → IsSummary n a → IsSummary n b → a ≡ b
  one_summary n a b h k = h.text_is ∙ ap₂ (summary n) (drawn_same n h.measured k.measured) (written_same n h.measured k.measured) ∙ sym k.text_is
