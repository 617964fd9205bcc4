-- What a bench comes to, from what its sides come to.
use Rattle.std.proofs.Common.{◌≡◌, ◌∙◌, ◌++◌, ℕ, ℤ, List, [], refl, sym, ap, ap₂, subst, append-nil, append_assoc, inr}
use Rattle.std.specs.Prelude.{Some, Result, Ok, Err, MatchResult}
use Rattle.plcx_meaning.specs.Diagram as diagram
use Rattle.plcx_meaning.specs.Diagram.{Pou}
use Rattle.plcx_meaning.specs.Evaluate.{Heard, DiagramState, diagram_machine}
use Rattle.plcx_meaning.specs.Execute as text
use Rattle.plcx_meaning.specs.Execute.{TextState, text_machine}
use Rattle.plcx_meaning.specs.Run.{Side}
use Rattle.plcx_meaning.specs.Templates.{unit_of}
use Rattle.plcx_meaning.specs.Tree.{PouText}
use Rattle.plcx_meaning.specs.Watch.{heard_over}
use Rattle.plcx_model.specs.declared.plan.Links.{Links}
use Rattle.plcx_model.specs.declared.plan.Types.{Types}
use Rattle.plcx_model.specs.declared.plan.Plan.{Plan}
use Rattle.plcx_model.specs.declared.project.Project.{Project}
use Rattle.plcx_view.specs.Checked.{IsChecked}
use Rattle.plcx_view.specs.Diagrams.{diagrams_of}
use Rattle.plcx_bench_project.specs.Bench.{IsBench, ring}
use Rattle.plcx_eval.specs.declared.side.DiagramSide.{DiagramSide}
use Rattle.plcx_eval.specs.Sides as drawn
use Rattle.plcx_run.specs.declared.side.TextSide.{TextSide}
use Rattle.plcx_run.specs.Sides as written
use Rattle.plcx_bench.specs.Sides.{IsDrawn, IsWritten}
use Rattle.plcx_bench.specs.Summary.{turns, ten_scans, at_first, sum_after, Measured, diagram_sum, text_sum, summary, IsSummary}
use Rattle.plcx_bench.specs.Watching.{heard_in, HearsAll, HearsSome}

module _ (n : ℕ) (project : Project) (links : Links) (types : Types) (plan : Plan) (bench : IsBench n project) where
  abbrev diagrams : diagram.Project
  diagrams = diagrams_of project links types plan

  -- its program is there, and that of its text
  pub named : (p : Pou) × (diagram.program_named (ring n).name diagrams ≡ Some p)
  named = subst (λ (x : Project). (p : Pou) × (diagram.program_named (ring n).name (diagrams_of x links types plan) ≡ Some p)) (sym bench) (_, refl)

  pub written_named : (q : PouText) × (text.program_named (ring n).name (unit_of diagrams) ≡ Some q)
  written_named = subst (λ (x : Project). (q : PouText) × (text.program_named (ring n).name (unit_of (diagrams_of x links types plan)) ≡ Some q)) (sym bench) (_, refl)

  module _ (checked : IsChecked project links types plan) where
    pub measured : Measured n
    measured = record {
      diagrams = diagrams;
      are = record { project = project; is = bench; links = links; types = types; plan = plan; checked = checked; are = refl };
      program = named.0;
      named = named.1;
      written = written_named.0;
      written_named = written_named.1;
    }

    module _ (s : DiagramSide) (begun : IsDrawn diagrams (ring n).name s) where
      pub of_diagram : (sum : ℤ) → ((g : Side DiagramState) → drawn.StandsFor s g → sum ≡ sum_after (drawn.machine_of s) ten_scans g) → sum ≡ diagram_sum measured
      unfolding measured named
      of_diagram sum h =
          h (at_first (diagram_machine diagrams named.0)) (begun.stands named.0 named.1)
          ∙ ap₂ (λ (d : diagram.Project) (p : Pou). sum_after (diagram_machine d p) ten_scans (at_first (diagram_machine diagrams named.0))) begun.of (begun.program named.0 named.1)

      pub hears_all : (Became : List Heard → Type 0) → ((g : Side DiagramState) → drawn.StandsFor s g → Became (heard_over (drawn.diagrams s) (drawn.program s) turns ten_scans g)) → HearsAll n Became
      unfolding measured named
      hears_all Became h = record {
        measured = measured;
        became = subst (λ (p : Pou). Became (heard_over diagrams p turns ten_scans (at_first (diagram_machine diagrams named.0)))) (begun.program named.0 named.1)
            (subst (λ (d : diagram.Project). Became (heard_over d (drawn.program s) turns ten_scans (at_first (diagram_machine diagrams named.0)))) begun.of
            (h (at_first (diagram_machine diagrams named.0)) (begun.stands named.0 named.1)));
      }

    pub of_text : (s : TextSide) → IsWritten (unit_of diagrams) (ring n).name s → (sum : ℤ) → ((g : Side TextState) → written.StandsFor s g → sum ≡ sum_after (written.machine_of s) ten_scans g) → sum ≡ text_sum measured
    unfolding measured written_named
    of_text s begun sum h =
        h (at_first (text_machine (unit_of diagrams) written_named.0)) (begun.stands written_named.0 written_named.1)
        ∙ ap₂ (λ (u : List PouText) (q : PouText). sum_after (text_machine u q) ten_scans (at_first (text_machine (unit_of diagrams) written_named.0))) begun.of (begun.program written_named.0 written_named.1)

    pub summary_is : (text : List ℕ) (d t : ℤ) → text ≡ summary n d t → d ≡ diagram_sum measured → t ≡ text_sum measured → IsSummary n text
    summary_is text d t is a b = record { measured = measured; text_is = is ∙ ap₂ (summary n) a b }

-- where memory is wanted behind the scans, all was heard
pub heard_by_then : {A E : Type 0} (n : ℕ) (Became : List Heard → Type 0) → HearsAll n Became → (res : Result A E) → MatchResult res (λ _. HearsAll n Became) (λ _. HearsSome n Became)
heard_by_then n Became all (Ok x) = all
heard_by_then n Became all (Err e) = inr (record { measured = all.measured; front = heard_in all.measured; is_front = ([], sym (append-nil (heard_in all.measured))); became = all.became })

-- lines, one behind another
pub joined : (t t1 t2 t3 t4 t5 a b c d e : List ℕ) → t ≡ [] → t1 ≡ t ++ a → t2 ≡ t1 ++ b → t3 ≡ t2 ++ c → t4 ≡ t3 ++ d → t5 ≡ t4 ++ e → t5 ≡ a ++ (b ++ (c ++ (d ++ e)))
joined t t1 t2 t3 t4 t5 a b c d e e0 e1 e2 e3 e4 e5 =
    let h1 : t1 ≡ a = e1 ∙ ap (λ x. x ++ a) e0 in
    let h2 : t2 ≡ a ++ b = e2 ∙ ap (λ x. x ++ b) h1 in
    let h3 : t3 ≡ (a ++ b) ++ c = e3 ∙ ap (λ x. x ++ c) h2 in
    let h4 : t4 ≡ ((a ++ b) ++ c) ++ d = e4 ∙ ap (λ x. x ++ d) h3 in
    e5
    ∙ ap (λ x. x ++ e) h4
    ∙ append_assoc ((a ++ b) ++ c) d e
    ∙ append_assoc (a ++ b) c (d ++ e)
    ∙ append_assoc a b (c ++ (d ++ e))
